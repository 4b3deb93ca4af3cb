-- `opening::initialize::fill_initial` meets its contract: the messages of the first d directions stand.
use Rattle.std.proofs.Common.{◌≡◌, ◌≤◌, ◌<◌, length, arith}
use Rattle.opening.specs.OpenRows.{offsets_long, offset-long, offset-end-le}
use Rattle.opening.specs.OpenSends.{initial_none, initial_turn, initial_all}
use Rattle.opening.proofs.initialize.fill_initial.Goals as goal
use Rattle.opening.proofs.initialize.fill_initial.Goals.{After-word-to}

pub loop-d-init : goal.loop-d-init
loop-d-init c = λ ds R. initial_none ds _

inside : (c : After-word-to) → (c.word-from.result ≤ c.word-to.result) × (c.word-to.result ≤ length c.args.row.now)
inside c =
    let S = c.requires in
    let d = c.loop-d.d in
    let h : d < length S.directions = omega (arith, offsets_long S.directions c.args.offsets.now c.args.row.now S.is, c.loop-d-test.true) in
    let long = offset-long S.directions c.args.offsets.now c.args.row.now S.is d h in
    let end = offset-end-le S.directions c.args.offsets.now c.args.row.now S.is d h in
    (omega (arith, long, c.word-from.ensures.0, c.word-to.ensures.0), omega (arith, end, c.word-to.ensures.0))

pub slice_bounds-fill-count : goal.slice_bounds-fill-count
slice_bounds-fill-count c = (inside (goal.at.slice_bounds-fill-count c).After-word-to).0

pub slice_bounds-fill-start : goal.slice_bounds-fill-start
slice_bounds-fill-start c = (inside (goal.at.slice_bounds-fill-start c).After-word-to).0

pub slice_bounds-fill-end : goal.slice_bounds-fill-end
slice_bounds-fill-end c = omega (arith, inside (goal.at.slice_bounds-fill-end c).After-word-to)

pub overflow_sub-to : goal.overflow_sub-to
overflow_sub-to c = (inside (goal.at.overflow_sub-to c).After-word-to).0

pub loop-d-preserved : goal.loop-d-preserved
loop-d-preserved c =
    let a = c.args in
    let s = c.loop-d in
    let f = c.word-from in
    let g = c.word-to in
    let x = c.initial_entry in
    λ ds R.
    initial_turn ds a.offsets.now a.row.now s.row c.fill.new.self x.result s.d f.result g.result R s.auto.row
    (omega (arith, offsets_long ds a.offsets.now a.row.now R, c.loop-d-test.true)) f.ensures.0 g.ensures.0 (c.fill.ensures.after (λ y e. e))
    x.ensures (s.invariant ds R)

pub returns : goal.returns
returns c =
    let s = c.loop-d in
    let a = c.args in
    λ ds R.
    let e : s.d ≡ length ds = omega (arith, c.loop-d-test.false, offsets_long ds a.offsets.now a.row.now R) in
    initial_all ds a.row.now s.row (rw e at (s.invariant ds R))
