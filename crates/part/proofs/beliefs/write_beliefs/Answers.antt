-- `part::beliefs::write_beliefs` meets its contract.
use Rattle.std.proofs.Common.{◌+◌, ◌*◌, ◌<◌, length, arith}
use Rattle.part.specs.BeliefsGrade.{before-all, grade-held}
use Rattle.part.specs.BeliefsLoop.{no_beliefs, other_step, belief_fits, grade_step}
use Rattle.part.proofs.beliefs.write_beliefs.Goals as goal
use Rattle.part.proofs.beliefs.write_beliefs.Goals.{Then-kind, then-kind, else-kind}

pub loop-n-init : goal.loop-n-init
loop-n-init c = λ s t ms ns R p m k. no_beliefs s t ms ns _ _

pub grade_belief-belief-requires : goal.grade_belief-belief-requires
grade_belief-belief-requires c =
    let a = c.args in
    let S = c.requires.some_rows in
    record { node_held = grade-held S.settings S.graph S.messages S.names a.kinds.now a.labels.now a.firsts.now a.offsets.now a.w.now S.rows _ c.loop-n-test.true c.if-kind.true }

room : (c : Then-kind) → (c.loop-n.k < length c.args.numbers.now) × (2 * c.loop-n.k + 1 < length c.args.floats.now)
room c =
    let a = c.args in
    let S = c.requires.some_rows in
    let l = c.loop-n in
    let f = belief_fits S.settings S.graph S.messages S.names a.kinds.now a.labels.now a.firsts.now a.offsets.now a.w.now S.rows a.numbers.now a.floats.now
    S.numbers_room S.floats_room
    l.n l.k c.loop-n-test.true l.numbers l.floats (l.invariant S.settings S.graph S.messages S.names S.rows S.given S.numbers_room S.floats_room)
    c.if-kind.true in
    (omega (arith, f.0), omega (arith, f.1))

pub write_belief-requires : goal.write_belief-requires
write_belief-requires c = let r = room (goal.at.write_belief-requires c).Then-kind in (omega (arith, r), omega (arith, r))

pub overflow_add-k : goal.overflow_add-k
overflow_add-k c = omega (arith, room (goal.at.overflow_add-k c).Then-kind)

pub loop-n-preserved : goal.loop-n-preserved
loop-n-preserved c =
    let l = c.loop-n in
    let a = c.args in
    let q = c.loop-n-test.true in
    elim c.if-kind.branch [
      | then-kind v ↦
          (λ s t ms ns R p m k.
          rw (v.numbers-is, v.floats-is, v.k-is, v.write_belief.ensures.numbers_after, v.write_belief.ensures.floats_after)
          (grade_step s t ms ns a.kinds.now a.labels.now a.firsts.now a.offsets.now a.w.now R a.numbers.now a.floats.now m k l.n l.k q l.numbers l.floats
          (l.invariant s t ms ns R p m k) v.if-kind.true a.prior _ _ p v.grade_belief-belief.ensures))
      | else-kind v ↦
          (λ s t ms ns R p m k.
          rw (v.numbers-is, v.floats-is, v.k-is)
          (other_step s t ms ns a.kinds.now a.labels.now a.firsts.now a.offsets.now a.w.now R a.numbers.now a.floats.now m k l.n l.k q l.numbers l.floats
          (l.invariant s t ms ns R p m k) v.if-kind.false))
    ]

pub returns : goal.returns
returns c =
    let l = c.loop-n in
    let a = c.args in
    λ s t ms ns R p m k.
    rw (before-all s t ms ns a.kinds.now a.labels.now a.firsts.now a.offsets.now a.w.now R l.n
    (omega (arith, l.auto.n-end, c.loop-n-test.false))) at (l.invariant s t ms ns R p m k)
