-- `opening::initialize::open_grade` meets its contract.
use Rattle.std.proofs.Common.{List, ◌≤◌, ◌∙◌, length, ap, arith}
use Rattle.std.specs.Float.Ieee.{of_bits}
use Rattle.definition.specs.Vectors.{Message}
use Rattle.definition.specs.Directions.{node_at, set_messages}
use Rattle.messages.specs.Layout.{cut}
use Rattle.opening.specs.OpenRows.{NodeRoom, node_room, grade-some}
use Rattle.opening.specs.OpenGrades.{grade_outgoing, grade_few, grade-many, held_few}
use Rattle.opening.proofs.initialize.open_grade.Goals as goal
use Rattle.opening.proofs.initialize.open_grade.Goals.{Start, After-word-to}

room : (c : Start) → NodeRoom c.args.firsts.now c.args.outs.now c.args.offsets.now c.args.row.now c.args.n
room c = node_room _ _ _ _ _ (grade-some c.requires.some_grade_rows)

pub word-first-requires : goal.word-first-requires
word-first-requires c = omega (arith, (room (goal.at.word-first-requires c).Start).node)

pub overflow_add-n : goal.overflow_add-n
overflow_add-n c = omega (arith, (room (goal.at.overflow_add-n c).Start).node)

pub word-end-requires : goal.word-end-requires
word-end-requires c = (room (goal.at.word-end-requires c).Start).node

pub returns-then-end-first : goal.returns-then-end-first
unfolding of_bits
returns-then-end-first c =
    let a = c.args in
    let b = c.from_prior-belief.ensures in
    λ s t R h k e.
    rw (b.absent, b.present) at (c.send_same.ensures s t R h (grade_outgoing s t a.firsts.now a.outs.now a.offsets.now a.row.now R a.n h k))
    ∙ ap (λ (ms : List Message). set_messages (node_at t a.n).outgoing ms (cut t.directions a.row.now))
    (grade_few s t a.firsts.now a.outs.now a.offsets.now a.row.now R a.n h k a.prior e
    (omega (arith, c.if-end-first.true, c.word-end.ensures.0, c.word-first.ensures.0)))

pub word-from-requires : goal.word-from-requires
word-from-requires c =
    let N = room (goal.at.word-from-requires c).Start in
    omega (arith, N.ordered, N.last, N.after, c.word-first.ensures.0)

pub word-to-requires : goal.word-to-requires
word-to-requires c =
    let N = room (goal.at.word-to-requires c).Start in
    omega (arith, N.last, N.after, c.word-end.ensures.0)

-- what the node holds
held : (c : After-word-to) → (c.word-from.result ≤ c.word-to.result) × (c.word-to.result ≤ length c.args.row.now)
held c =
    let N = node_room _ _ _ _ _ (grade-some c.requires.some_grade_rows) in (
      rw (c.word-to.ensures.0, c.word-from.ensures.0, c.word-end.ensures.0, c.word-first.ensures.0) N.span,
      rw c.word-to.ensures.0 (N.offset-le _ (omega (arith, N.last, c.word-end.ensures.0))),
    )

pub slice_bounds-log_total-count : goal.slice_bounds-log_total-count
slice_bounds-log_total-count c = (held (goal.at.slice_bounds-log_total-count c).After-word-to).0

pub slice_bounds-log_total-start : goal.slice_bounds-log_total-start
slice_bounds-log_total-start c = (held (goal.at.slice_bounds-log_total-start c).After-word-to).0

pub slice_bounds-log_total-end : goal.slice_bounds-log_total-end
slice_bounds-log_total-end c = (held (goal.at.slice_bounds-log_total-end c).After-word-to).1

pub log_total-total-requires : goal.log_total-total-requires
log_total-total-requires c =
    let S = c.requires.some_grade_rows in
    record {
      rows_len_bound = rw (c.word-to.ensures.0, c.word-from.ensures.0, c.word-end.ensures.0, c.word-first.ensures.0)
          (held_few S.settings S.graph _ _ _ _ S.rows _ S.there S.is-grade);
    }

pub returns : goal.returns
unfolding of_bits
returns c =
    let a = c.args in
    let v = c.log_total-total in
    let b = c.from_prior-belief.ensures in
    let total = rw (c.word-to.ensures.0, c.word-from.ensures.0, c.word-end.ensures.0, c.word-first.ensures.0, b.absent, b.present) at v.ensures in
    λ s t R h k e.
    c.send_left_out.ensures s t R h k
    ∙ ap (λ (ms : List Message). set_messages (node_at t a.n).outgoing ms (cut t.directions a.row.now))
    (grade-many s t a.firsts.now a.outs.now a.offsets.now a.row.now R a.n h k a.prior e
    (omega (arith, c.if-end-first.false, c.word-end.ensures.0, c.word-first.ensures.0)) v.result.absent v.result.present total.0 total.1)
