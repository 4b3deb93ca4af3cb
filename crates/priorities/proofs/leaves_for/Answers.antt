-- `priorities::leaves_for` meets its contract: w runs through the powers of two.
use native.Mathlib.Omega.{arith}
use Rattle.priorities.specs.Leaves.{doubling_next, doubling_end}
use Rattle.priorities.proofs.leaves_for.Goals as goal

pub loop-w-preserved : goal.loop-w-preserved
loop-w-preserved c = (omega arith, doubling_next c.args.d c.loop-w.w c.loop-w-test.true c.loop-w.invariant.1)

pub returns : goal.returns
returns c = doubling_end c.args.d c.loop-w.w c.loop-w-test.false c.loop-w.invariant.1
