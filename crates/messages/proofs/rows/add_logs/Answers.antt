-- `messages::rows::add_logs` meets its contract: what is left to add, from the sums so far, makes the whole.
use Rattle.std.proofs.Common.{◌+◌, ◌*◌, ◌≤◌, ◌<◌, ◌∙◌, ap, arith}
use lib.Dec.{lit≤}
use Rattle.definition.specs.Floats.{ln}
use Rattle.definition.specs.Vectors.{Message, entry}
use Rattle.messages.specs.Logarithms.{turn, finish, widen}
use Rattle.messages.proofs.rows.add_logs.Goals as goal

pub loop-i-preserved : goal.loop-i-preserved
loop-i-preserved c =
    let s = c.loop-i in
    let h = c.loop-i-test.true in
    let a = c.args in
    let l = c.logs-l in
    let e = c.message_at.ensures in
    let few : s.i < 1100 = omega (arith, c.requires.rows_len_bound.0) in (
      turn 0 a.from.absent a.rows.now s.i s.absent l.result.absent h few (l.ensures.is-absent ∙ ap (λ (z : Message). ln (entry 0 z)) e)
          l.ensures.wide_absent s.invariant.0,
      turn 1 a.from.present a.rows.now s.i s.present l.result.present h few (l.ensures.is-present ∙ ap (λ (z : Message). ln (entry 1 z)) e)
          l.ensures.wide_present s.invariant.1,
    )

pub returns : goal.returns
returns c =
    let s = c.loop-i in
    let a = c.args in
    let n : 91 + s.i * 91 ≤ 100000 = omega (arith, c.requires.rows_len_bound.0) in (
      finish 0 a.from.absent a.rows.now s.i s.absent c.loop-i-test.false s.invariant.0,
      finish 1 a.from.present a.rows.now s.i s.present c.loop-i-test.false s.invariant.1,
      widen (91 + s.i * 91) 100000 s.absent n (lit≤ tt) s.invariant.0.wide,
      widen (91 + s.i * 91) 100000 s.present n (lit≤ tt) s.invariant.1.wide,
    )
