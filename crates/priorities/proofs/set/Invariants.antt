-- `priorities::set` meets its contract: a climb from the leaf, which ends at the root or where a node does not change.
use Prim.Native.Nat.{◌*◌, ◌≤◌, ◌<◌}
use Rattle.priorities.specs.Climb.{Climb}
use Rattle.priorities.proofs.set.Given as goal

abbrev pub invariant-loop-k : goal.invariant-loop-k
invariant-loop-k l = (1 ≤ l.k) × (l.k < 2 * l.w) × Climb l.w l.initial.words l.words l.k

abbrev pub decreases-loop-k : goal.decreases-loop-k
decreases-loop-k l = l.k
