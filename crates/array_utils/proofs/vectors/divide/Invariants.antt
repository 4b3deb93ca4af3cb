-- `array_utils::vectors::divide` meets its contract: after i turns the first i entries are divided.
use Rattle.std.proofs.Common.{◌≡◌}
use Rattle.std.specs.Prelude.{Float}
use Rattle.definition.specs.Floats.{◌⊘◌}
use Rattle.list_laws.specs.InPlace.{mapped}
use Rattle.array_utils.proofs.vectors.divide.Given as goal

abbrev pub invariant-loop-x : goal.invariant-loop-x
invariant-loop-x l = l.a ≡ mapped (λ (x : Float). x ⊘ l.by) l.x-index l.initial.a
