-- `array_utils::power::powi` meets its contract: the product so far times the power that is left is the power.
use mathlib.Core.Path.{◌≡◌}
use Rattle.definition.specs.Floats.{oneᶠ}
use Rattle.array_utils.specs.PowerLaws.{power_from}
use Rattle.array_utils.proofs.power.powi.Given as goal

abbrev pub invariant-loop-rest : goal.invariant-loop-rest
invariant-loop-rest l = power_from l.product l.square l.rest ≡ power_from oneᶠ l.base l.n

abbrev pub decreases-loop-rest : goal.decreases-loop-rest
decreases-loop-rest l = l.rest
