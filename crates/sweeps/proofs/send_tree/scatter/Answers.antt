-- `sweeps::send_tree::scatter` meets its contract: after i turns the first i messages are copied.
use Rattle.std.proofs.Common.{◌+◌, ◌-◌, ◌∙◌, arith}
use Rattle.list_laws.specs.Slices.{copy_within-put}
use Rattle.messages.specs.LayoutPuts.{puts_none}
use Rattle.sweeps.specs.Sweep.{place_is}
use Rattle.sweeps.specs.SweepCopies.{scattered-next}
use Rattle.sweeps.proofs.send_tree.scatter.Goals as goal

pub loop-i-init : goal.loop-i-init
loop-i-init c = puts_none _ _ _

pub loop-i-preserved : goal.loop-i-preserved
loop-i-preserved c =
    let s = c.loop-i in
    let a = c.args in
    let start = c.word-start.result in
    let from = c.word.result in
    let end = c.word-in-loop-i.result in
    let at = c.word-at.result in
    let t = c.loop-i-test.true in
    let g = c.requires.above s.i t in
    let o = c.requires.order s.i t in
    let r = c.requires.room_there s.i t in
    let p = c.word-start.ensures.0 in
    let u = c.word.ensures.0 in
    let v = c.word-in-loop-i.ensures.0 in
    c.copy_within.ensures.after
    ∙ copy_within-put s.w (a.base + (from - start)) (a.base + (end - start)) (a.l + at) (end - from) (omega (arith, p, u, v, g, o, r))
    (omega (arith, p, u, v, g, o))
    ∙ scattered-next a.outs.now a.offsets.now a.l a.first a.k a.base a.w.now c.requires s.w s.i start from end at t s.invariant p u v
    (place_is a.outs.now a.offsets.now (a.first + s.i) c.word-in-loop-i-2.result at c.word-in-loop-i-2.ensures.0 c.word-at.ensures.0)
