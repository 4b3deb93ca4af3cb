-- `sweeps::send::send_factor` meets its contract.
use Rattle.std.proofs.Common.{◌+◌, ◌-◌, ◌∙◌, get_or, ap, arith}
use Rattle.std.specs.Float.{nan}
use Rattle.definition.specs.Vectors.{binary}
use Rattle.list_laws.specs.Put.{put}
use Rattle.node.specs.Rows.{given}
use Rattle.messages.specs.Factor.{factor-part}
use Rattle.sweeps.specs.Sweep.{place_is, factor-is}
use Rattle.sweeps.proofs.send.send_factor.Goals as goal

pub returns : goal.returns
returns c =
    let a = c.args in
    let s = given a.alpha a.beta a.regularised in
    let d = get_or a.offsets.now (a.first + 1) 0 - get_or a.offsets.now a.first 0 in
    let to = a.l + c.word-2.result in
    let e = place_is a.outs.now a.offsets.now a.first c.word.result c.word-2.result c.word.ensures.0 c.word-2.ensures.0 in
    let f = place_is a.outs.now a.offsets.now (a.first + 1) c.word-3.result c.word-back.result c.word-3.ensures.0 c.word-back.ensures.0 in
    let m = c.read-message.ensures.entries in
    let read = rw (m.0, m.1) at c.out_message_factor.ensures in
    let p = factor-part s (binary (get_or a.w.now c.word-held.result nan) (get_or a.w.now (c.word-held.result + 1) nan)) a.w.now
    c.out_message_factor.new.out to (to + d - to) d (omega (arith, e, c.requires.fits, c.requires.roomy)) (omega arith) read in
    factor-is a.alpha a.beta a.regularised a.outs.now a.offsets.now a.l a.first a.w.now c.requires c.word-2.result c.word-back.result c.word-held.result
    c.out_message_factor.new.out c.write.new.row e f c.word-held.ensures.0 p
    (c.write.ensures ∙ ap (put _ (a.l + c.word-back.result)) c.read.ensures.two)
