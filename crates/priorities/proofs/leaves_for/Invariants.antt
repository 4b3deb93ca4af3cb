-- `priorities::leaves_for` meets its contract: w runs through the powers of two.
use Prim.Native.Nat.{◌-◌, ◌≤◌}
use Rattle.priorities.specs.Leaves.{Doubling}
use Rattle.priorities.proofs.leaves_for.Given as goal

abbrev pub invariant-loop-w : goal.invariant-loop-w
invariant-loop-w l = (1 ≤ l.w) × Doubling l.d l.w

abbrev pub decreases-loop-w : goal.decreases-loop-w
decreases-loop-w l = l.d - l.w
