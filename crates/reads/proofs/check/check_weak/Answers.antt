-- `check::check_weak` meets its contract.
use Rattle.reads.specs.Put.{weak-front}
use Rattle.reads.specs.Ran.{settings_in}
use Rattle.reads.specs.Checked.{report_buffers_in, with_floats, checked}
use Rattle.definition.specs.Refusals.{bale_of, verdict}
use Rattle.definition.specs.Report.{ample_for}
use lib.ListN.{take}
use mathlib.Core.Path.{◌≡◌, ◌∙◌}
use Prim.Native.Nat.{◌-◌, ◌*◌}
use native.Mathlib.Omega.{arith}
use Rattle.reads.proofs.check.check_weak.Goals as goal

pub returns : goal.returns
unfolding ample_for bale_of
returns c es e =
    let m = c.args.markers in
    let s = settings_in c.args.settings in
    let f = report_buffers_in c.args.lent in
    let n : 2 * m - 0 ≡ 2 * m = omega arith in
    let front = (λ i. take (n i) (c.put_reads.ensures i)) ∙ weak-front _ m 1024 c.requires in
    c.check.ensures
    ∙ (λ i.
    verdict s (ample_for (with_floats f (c.floats_for.ensures i)) (bale_of c.args.grades es c.args.pairs.now))
    (bale_of c.args.grades (front i) c.args.pairs.now))
    ∙ checked c.args.grades c.args.pairs.now es m e s f c.args.needed
