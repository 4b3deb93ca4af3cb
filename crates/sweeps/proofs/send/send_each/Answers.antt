-- `sweeps::send::send_each` meets its contract: after i turns the first i messages are sent.
use Rattle.std.proofs.Common.{ℕ, ◌+◌, ◌∙◌, ap}
use Rattle.definition.specs.Vectors.{binary}
use Rattle.list_laws.specs.Put.{put}
use Rattle.messages.specs.LayoutPuts.{puts_none}
use Rattle.sweeps.specs.Sweep.{place_is, each_next}
use Rattle.sweeps.proofs.send.send_each.Goals as goal

pub loop-i-init : goal.loop-i-init
loop-i-init c = puts_none _ _ _

pub loop-i-preserved : goal.loop-i-preserved
loop-i-preserved c =
    let s = c.loop-i in
    let a = c.args in
    let m = c.read-m.ensures.entries in
    let o = c.out_from_sums-r in
    let t = binary a.sum.absent a.sum.present in
    let p = binary a.prior.absent a.prior.present in
    let r = binary o.result.absent o.result.present in
    c.write.ensures
    ∙ ap (λ (n : ℕ). put s.w (a.l + n) r) (place_is a.outs.now a.offsets.now (a.first + s.i) _ _ c.word.ensures.0 c.word-in-loop-i.ensures.0)
    ∙ each_next t p a.outs.now a.offsets.now a.l a.from a.first a.k a.w.now c.requires.pairing s.w s.i c.loop-i-test.true s.invariant r
    (rw (m.0, m.1) at o.ensures)
