-- `array_utils::vectors::sum` meets its contract: after i turns the sum is that of the first i entries.
use Rattle.std.proofs.Common.{◌≡◌, take}
use Rattle.definition.specs.Vectors.{sum_of}
use Rattle.array_utils.proofs.vectors.sum.Given as goal

abbrev pub invariant-loop-x : goal.invariant-loop-x
invariant-loop-x l = l.sum ≡ sum_of (take l.x-index l.a)
