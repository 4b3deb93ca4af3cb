-- `add_bale` meets its contract. The loop's invariant: with the beliefs from the i-th on, the totals become what all of them make of the first.
use Rattle.std.proofs.Common.{arith}
use Rattle.shares.specs.Adding.{added, adding-next, adding-ends, sum_fits}
use Rattle.shares.proofs.add_bale.Goals as goal

pub overflow_add-sums : goal.overflow_add-sums
overflow_add-sums c =
    let p = c.requires in
    omega (arith, sum_fits p c.loop-i.invariant c.loop-i-test.true, c.whole_part.ensures, p.few, c.loop-i-test.true)

pub loop-i-preserved : goal.loop-i-preserved
loop-i-preserved c = adding-next c.requires c.loop-i.invariant c.loop-i-test.true c.whole_part.result c.whole_part.ensures

pub returns : goal.returns
returns c = added (adding-ends c.loop-i.invariant c.loop-i-test.false)
