-- `opening::initialize::send_left_out` meets its contract: the messages to the positions before direction k are sent.
use Rattle.std.proofs.Common.{◌≡◌, ◌+◌, ◌≤◌, ◌<◌, map, get_or, arith}
use Rattle.definition.specs.Vectors.{binary}
use Rattle.definition.specs.Directions.{node_at, messages_in}
use Rattle.definition.specs.Sweeps.{leave_one_out}
use Rattle.messages.specs.Layout.{cut}
use Rattle.opening.specs.OpenRows.{NodeRoom, node_room}
use Rattle.opening.specs.OpenSends.{sent-start, sent-all}
use Rattle.opening.specs.OpenGrades.{left-next, left-sends}
use Rattle.opening.proofs.initialize.send_left_out.Goals as goal
use Rattle.opening.proofs.initialize.send_left_out.Goals.{Start, In-loop-k}

room : (c : Start) → NodeRoom c.args.firsts.now c.args.outs.now c.args.offsets.now c.args.row.now c.args.n
room c = node_room _ _ _ _ _ c.requires.some_send_rows

pub word-k-requires : goal.word-k-requires
word-k-requires c = omega (arith, (room (goal.at.word-k-requires c).Start).node)

pub overflow_add-n : goal.overflow_add-n
overflow_add-n c = omega (arith, (room (goal.at.overflow_add-n c).Start).node)

pub word-k-end-requires : goal.word-k-end-requires
word-k-end-requires c = (room (goal.at.word-k-end-requires c).Start).node

pub loop-k-init : goal.loop-k-init
loop-k-init c =
    let a = c.args in
    λ s t R h k.
    sent-start t (node_at t a.n).outgoing (map (leave_one_out a.total.absent a.total.present) (messages_in (node_at t a.n) (cut t.directions a.row.now)))
    a.row.now c.word-k.result (get_or a.firsts.now a.n 0) c.word-k.ensures.0

before-end : (c : In-loop-k) → c.loop-k.k < get_or c.args.firsts.now (c.args.n + 1) 0
before-end c = omega (arith, c.loop-k-test.true, c.word-k-end.ensures.0)

pub word-requires : goal.word-requires
word-requires c =
    let N = node_room _ _ _ _ _ c.requires.some_send_rows in
    omega (arith, N.after, N.last, before-end (goal.at.word-requires c).In-loop-k)

pub read-own-requires : goal.read-own-requires
read-own-requires c =
    let N = node_room _ _ _ _ _ c.requires.some_send_rows in
    let l = before-end (goal.at.read-own-requires c).In-loop-k in
    omega (arith, N.two c.loop-k.k (omega (arith, N.last, l)), c.word.ensures.0)

pub word-requires-in-loop-k : goal.word-requires-in-loop-k
word-requires-in-loop-k c =
    let N = node_room _ _ _ _ _ c.requires.some_send_rows in
    omega (arith, N.last, before-end (goal.at.word-requires-in-loop-k c).In-loop-k)

pub word-requires-in-loop-k-2 : goal.word-requires-in-loop-k-2
word-requires-in-loop-k-2 c =
    let N = node_room _ _ _ _ _ c.requires.some_send_rows in
    let l = before-end (goal.at.word-requires-in-loop-k-2 c).In-loop-k in
    omega (arith, N.after, c.word-in-loop-k.ensures.0, N.out c.loop-k.k (omega (arith, N.last, l)))

pub write-requires : goal.write-requires
write-requires c =
    let N = node_room _ _ _ _ _ c.requires.some_send_rows in
    let l = before-end (goal.at.write-requires c).In-loop-k in
    let o = c.word-in-loop-k in
    let q = N.out c.loop-k.k (omega (arith, N.last, l)) in
    omega (arith, N.two o.result (omega (arith, q, o.ensures.0)), c.word-in-loop-k-2.ensures.0)

pub loop-k-preserved : goal.loop-k-preserved
loop-k-preserved c =
    let s = c.loop-k in
    let a = c.args in
    let from : get_or a.firsts.now a.n 0 ≤ s.k = omega (arith, s.auto.k, c.word-k.ensures.0) in
    let w = c.word in
    let m = c.read-own in
    let v = c.leave_one_out-message in
    let o = c.word-in-loop-k in
    let at = c.word-in-loop-k-2 in
    λ g t R h k.
    left-next g t a.firsts.now a.outs.now a.offsets.now a.row.now R a.n h k a.total.absent a.total.present s.row c.write.new.row
    (binary m.result.absent m.result.present) (binary v.result.absent v.result.present) w.result o.result at.result s.k from
    (before-end (goal.at.loop-k-preserved c).In-loop-k) (s.invariant g t R h k) w.ensures.0 m.ensures.two v.ensures o.ensures.0 at.ensures.0 c.write.ensures

pub returns : goal.returns
returns c =
    let s = c.loop-k in
    let a = c.args in
    let N = node_room _ _ _ _ _ c.requires.some_send_rows in
    let e : s.k ≡ get_or a.firsts.now (a.n + 1) 0 = omega (arith, N.ordered, s.auto.k-end, c.loop-k-test.false, c.word-k.ensures.0, c.word-k-end.ensures.0) in
    λ g t R h k. sent-all g t a.firsts.now a.outs.now a.offsets.now a.row.now R a.n h
    (map (leave_one_out a.total.absent a.total.present) (messages_in (node_at t a.n) (cut t.directions a.row.now))) s.row s.k e (s.invariant g t R h k)
    (left-sends g t a.firsts.now a.outs.now a.offsets.now a.row.now R a.n h k a.total.absent a.total.present)
