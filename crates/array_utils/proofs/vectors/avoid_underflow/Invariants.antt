-- `array_utils::vectors::avoid_underflow` meets its contract: after i turns the first i entries are raised.
use Rattle.std.proofs.Common.{◌≡◌}
use Rattle.list_laws.specs.InPlace.{mapped}
use Rattle.definition.specs.Floats.{avoid_underflow}
use Rattle.array_utils.proofs.vectors.avoid_underflow.Given as goal

abbrev pub invariant-loop-x : goal.invariant-loop-x
invariant-loop-x l = l.a ≡ mapped avoid_underflow l.x-index l.initial.a
