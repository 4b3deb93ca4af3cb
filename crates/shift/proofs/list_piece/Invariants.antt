-- `shift::list_piece` meets its contract: of the first `at` bytes the bales that were ended went.
use Rattle.std.specs.Prelude.{ℕ, ◌≡◌, ◌≤◌, ◌-◌, ◌++◌, List, true, length, take}
use Rattle.bale_answer.specs.Open.{OpenIn}
use Rattle.shift.specs.Shifts.{WentOver}
use Rattle.shift.specs.Overs.{went}
use Rattle.shift.proofs.list_piece.Given as goal

abbrev pub invariant-loop-at : goal.invariant-loop-at
invariant-loop-at g l =
    ((bs : List ℕ) → OpenIn bs l.initial.held l.initial.markers l.initial.pairs
    → WentOver (g.W.Write.contents l.initial.to) (g.W.Write.contents l.to) (bs ++ take l.at l.piece) (went l.held true) l.markers l.pairs)
    × (l.at ≤ length l.piece) × (length l.work_floats ≡ 16128) × (length l.work_numbers ≡ 16128)

abbrev pub decreases-loop-at : goal.decreases-loop-at
decreases-loop-at g l = length l.piece - l.at
