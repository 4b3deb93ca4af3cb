-- `sweeps::send_tree::keep_sent` meets its contract: after i turns the first i messages are copied.
use Rattle.std.proofs.Common.{◌+◌, ◌-◌, ◌∙◌, arith}
use Rattle.list_laws.specs.Slices.{copy_within-put}
use Rattle.messages.specs.LayoutPuts.{puts_none}
use Rattle.sweeps.specs.Sweep.{place_is}
use Rattle.sweeps.specs.SweepCopies.{end_is, kept_next}
use Rattle.sweeps.proofs.send_tree.keep_sent.Goals as goal

pub loop-i-init : goal.loop-i-init
loop-i-init c = puts_none _ _ _

pub loop-i-preserved : goal.loop-i-preserved
loop-i-preserved c =
    let s = c.loop-i in
    let a = c.args in
    let at = c.word-at.result in
    let end = c.word.result in
    let e = place_is a.outs.now a.offsets.now (a.first + s.i) c.word-d.result at c.word-d.ensures.0 c.word-at.ensures.0 in
    let g = end_is a.outs.now a.offsets.now (a.first + s.i) c.word-d.result end c.word-d.ensures.0 c.word.ensures.0 in
    let o = c.requires.order s.i c.loop-i-test.true in
    let f = c.requires.fits s.i c.loop-i-test.true in
    c.copy_within.ensures.after
    ∙ copy_within-put s.w at end (a.l + at) (end - at) (omega (arith, e, g, o, f, c.requires.roomy)) (omega (arith, e, g, o))
    ∙ kept_next a.outs.now a.offsets.now a.l a.first a.k a.w.now c.requires s.w s.i c.word-d.result at end c.loop-i-test.true s.invariant
    c.word-d.ensures.0 c.word-at.ensures.0 c.word.ensures.0
