-- `opening::initialize::send_same` meets its contract: the messages to the positions before direction k are sent.
use Rattle.std.proofs.Common.{◌≡◌, ◌+◌, ◌≤◌, ◌<◌, get_or, arith}
use Rattle.definition.specs.Vectors.{binary}
use Rattle.definition.specs.Directions.{node_at}
use Rattle.opening.specs.OpenRows.{NodeRoom, node_room}
use Rattle.opening.specs.OpenSends.{sames, sent-start, same_next, same-sends, sent-all}
use Rattle.opening.proofs.initialize.send_same.Goals as goal
use Rattle.opening.proofs.initialize.send_same.Goals.{Start, In-loop-k}

room : (c : Start) → NodeRoom c.args.firsts.now c.args.outs.now c.args.offsets.now c.args.row.now c.args.n
room c = node_room _ _ _ _ _ c.requires

pub word-k-requires : goal.word-k-requires
word-k-requires c = omega (arith, (room (goal.at.word-k-requires c).Start).node)

pub overflow_add-n : goal.overflow_add-n
overflow_add-n c = omega (arith, (room (goal.at.overflow_add-n c).Start).node)

pub word-k-end-requires : goal.word-k-end-requires
word-k-end-requires c = (room (goal.at.word-k-end-requires c).Start).node

pub loop-k-init : goal.loop-k-init
loop-k-init c =
    let a = c.args in
    λ s t R h.
    sent-start t (node_at t a.n).outgoing (sames (binary a.message.absent a.message.present) (node_at t a.n).outgoing) a.row.now c.word-k.result
    (get_or a.firsts.now a.n 0) c.word-k.ensures.0

before-end : (c : In-loop-k) → c.loop-k.k < get_or c.args.firsts.now (c.args.n + 1) 0
before-end c = omega (arith, c.loop-k-test.true, c.word-k-end.ensures.0)

pub word-requires : goal.word-requires
word-requires c =
    let N = node_room _ _ _ _ _ c.requires in
    omega (arith, N.last, before-end (goal.at.word-requires c).In-loop-k)

pub word-requires-in-loop-k : goal.word-requires-in-loop-k
word-requires-in-loop-k c =
    let N = node_room _ _ _ _ _ c.requires in
    let l = before-end (goal.at.word-requires-in-loop-k c).In-loop-k in
    omega (arith, N.last, N.after, c.word.ensures.0, N.out c.loop-k.k (omega (arith, N.last, l)))

pub write-requires : goal.write-requires
write-requires c =
    let N = node_room _ _ _ _ _ c.requires in
    let l = before-end (goal.at.write-requires c).In-loop-k in
    let q = N.out c.loop-k.k (omega (arith, N.last, l)) in
    omega (arith, N.two c.word.result (omega (arith, q, c.word.ensures.0)), c.word-in-loop-k.ensures.0)

pub loop-k-preserved : goal.loop-k-preserved
loop-k-preserved c =
    let s = c.loop-k in
    let a = c.args in
    let from : get_or a.firsts.now a.n 0 ≤ s.k = omega (arith, s.auto.k, c.word-k.ensures.0) in
    λ v t R h.
    same_next v t a.firsts.now a.outs.now a.offsets.now a.row.now R a.n h s.row c.write.new.row a.message.absent a.message.present c.word.result
    c.word-in-loop-k.result s.k from (before-end (goal.at.loop-k-preserved c).In-loop-k)
    (s.invariant v t R h) c.word.ensures.0 c.word-in-loop-k.ensures.0 c.write.ensures

pub returns : goal.returns
returns c =
    let s = c.loop-k in
    let a = c.args in
    let N = node_room _ _ _ _ _ c.requires in
    let e : s.k ≡ get_or a.firsts.now (a.n + 1) 0 = omega (arith, N.ordered, s.auto.k-end, c.loop-k-test.false, c.word-k.ensures.0, c.word-k-end.ensures.0) in
    λ v t R h y.
    sent-all v t a.firsts.now a.outs.now a.offsets.now a.row.now R a.n h (sames (binary a.message.absent a.message.present) (node_at t a.n).outgoing) s.row
    s.k e (s.invariant v t R h)
    (same-sends v t a.firsts.now a.outs.now a.offsets.now a.row.now R a.n h a.message.absent a.message.present y)
