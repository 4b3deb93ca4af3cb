-- `listing::totals::put_totals` meets its contract.
use Rattle.listing.specs.Totals.{no_totals, total_skipped, total-fits, total-put}
use Rattle.listing.proofs.totals.put_totals.Goals as goal
use Rattle.listing.proofs.totals.put_totals.Goals.{then-grams-ne0, else-grams-ne0}

pub loop-grade-init : goal.loop-grade-init
loop-grade-init c = no_totals c.args.out.now c.args.totals.now

pub put_total-end-requires : goal.put_total-end-requires
put_total-end-requires c =
    let l = c.loop-grade in
    total-fits l.invariant c.loop-grade-test.true c.requires.0 c.requires.1 c.type_inv.grams.fits

pub loop-grade-preserved : goal.loop-grade-preserved
loop-grade-preserved c =
    let l = c.loop-grade in
    let h = c.loop-grade-test.true in
    elim c.if-grams-ne0.branch [
      | then-grams-ne0 w ↦ rw (w.out-is, w.end-is) (total-put l.invariant h c.requires.0 c.requires.1 (c.type_inv.totals c.loop-grade.grade).fits w.if-grams-ne0.true w.put_total-end.ensures)
      | else-grams-ne0 w ↦ rw (w.out-is, w.end-is) (total_skipped l.invariant h w.if-grams-ne0.false)
    ]
