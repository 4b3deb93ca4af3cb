-- `priorities::first_largest` meets its contract: a descent from the root.
use Prim.Native.Nat.{◌-◌, ◌*◌, ◌≤◌, ◌<◌}
use Rattle.priorities.specs.Descent.{Descent}
use Rattle.priorities.proofs.first_largest.Given as goal

abbrev pub invariant-loop-k : goal.invariant-loop-k
invariant-loop-k l = (1 ≤ l.k) × (l.k < 2 * l.w) × Descent l.words l.w l.k

abbrev pub decreases-loop-k : goal.decreases-loop-k
decreases-loop-k l = 2 * l.w - l.k
