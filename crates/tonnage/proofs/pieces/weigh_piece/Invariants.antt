-- `pieces::weigh_piece` meets its contract.
use Prim.Native.Nat.{ℕ, ◌-◌, ◌≤◌}
use mathlib.Core.List.{List, ◌++◌}
use mathlib.Core.Path.{◌≡◌}
use lib.ListN.{length, take}
use Rattle.tonnage.specs.Weighed.{Weighs}
use Rattle.tonnage.proofs.pieces.weigh_piece.Given as goal

abbrev pub invariant-loop-at : goal.invariant-loop-at
invariant-loop-at l =
    ((bs : List ℕ) → Weighs l.csv bs l.initial.held l.initial.markers l.initial.pairs l.initial.sums → Weighs l.csv (bs ++ take l.at l.piece) l.held l.markers l.pairs l.sums)
    × (l.at ≤ length l.piece) × (length l.work_floats ≡ 16128) × (length l.work_numbers ≡ 16128)

abbrev pub decreases-loop-at : goal.decreases-loop-at
decreases-loop-at l = length l.piece - l.at
