-- `array_utils::message::sum_logs_batched` meets its contract: what is left of the blocks, from the sums so far, is the whole.
use lib.Ieee.{of_bits}
use Rattle.array_utils.specs.Columns as columns
use Rattle.array_utils.specs.SumLaws.{start, turn, finish}
use Rattle.array_utils.proofs.message.sum_logs_batched.Goals as goal

pub loop-i-init : goal.loop-i-init
unfolding of_bits
loop-i-init c = let l = c.args.rows.now in (start columns.absent l, start columns.present l)

pub loop-i-preserved : goal.loop-i-preserved
loop-i-preserved c =
    let s = c.loop-i in
    let l = c.args.rows.now in
    let h = c.loop-i-test.true in
    let p = c.column_products-p in (
      turn columns.absent l s.i s.absent p.result.absent c.ln-absent.result h p.ensures.0 c.ln-absent.ensures s.invariant.0,
      turn columns.present l s.i s.present p.result.present c.ln-present.result h p.ensures.1 c.ln-present.ensures s.invariant.1,
    )

pub returns : goal.returns
returns c =
    let s = c.loop-i in
    let l = c.args.rows.now in
    let g = s.auto.i-end in
    let h = c.loop-i-test.false in
    let p = c.column_products-p-2 in (
      finish columns.absent l s.i s.absent p.result.absent c.ln.result g h p.ensures.0 c.ln.ensures s.invariant.0,
      finish columns.present l s.i s.present p.result.present c.ln-2.result g h p.ensures.1 c.ln-2.ensures s.invariant.1,
    )
