-- `reads::put_reads` meets its contract.
use Rattle.std.proofs.Common.{◌+◌, ◌*◌, ◌<◌, List, Float, Bool, length, length-take-le, get_or, arith, ap, ◌∙◌}
use Rattle.std.proofs.Math.Bool.{false}
use Rattle.std.proofs.lemmas.List.{get_or-take}
use Rattle.reads.specs.Put.{put_read, put-taken}
use Rattle.reads.proofs.put_reads.Goals as goal

pub loop-m-preserved : goal.loop-m-preserved
loop-m-preserved c =
    let a = c.args in
    let m = c.loop-m.m in
    let here : m < a.markers = omega (arith, length-take-le a.markers a.reads.now (omega arith)) in
    let h : 2 * m + 1 < length a.evidence.now = omega arith in
    let k : m < length a.reads.now = omega arith in
    c.put_read.ensures
    ∙ ap (λ (r : Bool). put_read c.loop-m.evidence m r) (get_or-take a.markers a.reads.now m false here)
    ∙ ap (λ (x : List Float). put_read x m (get_or a.reads.now m false)) c.loop-m.invariant
    ∙ put-taken a.reads.now a.evidence.now m h k
