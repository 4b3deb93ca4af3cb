-- `sweeps::send::send_variable` meets its contract.
use Rattle.std.proofs.Common.{◌≡◌, ℕ, ◌+◌, ◌-◌, ◌*◌, ◌∙◌, ap, arith}
use Rattle.definition.specs.Vectors.{binary}
use Rattle.list_laws.specs.Part.{region}
use Rattle.list_laws.specs.Put.{put}
use Rattle.array_utils.specs.Columns as columns
use Rattle.messages.specs.Variable.{batched_wide}
use Rattle.sweeps.specs.Sweep.{place_is, one-sent, lent_few, lent-sent}
use Rattle.sweeps.proofs.send.send_variable.Goals as goal

pub returns-then-k-eq1 : goal.returns-then-k-eq1
returns-then-k-eq1 c =
    let a = c.args in
    let t = binary a.belief.absent a.belief.present in
    c.write.ensures
    ∙ ap (λ (n : ℕ). put a.w.now (a.l + n) t) (place_is a.outs.now a.offsets.now a.first c.word.result c.word-then-k-eq1.result c.word.ensures.0
    c.word-then-k-eq1.ensures.0)
    ∙ one-sent t a.outs.now a.offsets.now a.l a.first a.k a.w.now c.requires.first_in_bounds.1 c.if-k-eq1.true

pub send_each-requires-clause-wide : goal.send_each-requires-clause-wide
send_each-requires-clause-wide c =
    let r = c.sum_logs_batched-sum in
    let a = c.args in
    let f = c.word-from.result in
    let d : f + 2 * a.k - f ≡ 2 * a.k = omega arith in
    let n = f + 2 * a.k - f in
    let few = lent_few (binary a.belief.absent a.belief.present) a.outs.now a.offsets.now a.l a.first a.k a.w.now c.requires.first_in_bounds.1 f n
    c.word-from.ensures.0 d in (
      batched_wide columns.absent (region a.w.now f n) r.result.absent few r.ensures.0,
      batched_wide columns.present (region a.w.now f n) r.result.present few r.ensures.1,
      c.logs-prior.ensures.wide_absent,
      c.logs-prior.ensures.wide_present,
    )

pub returns : goal.returns
returns c =
    let r = c.sum_logs_batched-sum in
    let a = c.args in
    let f = c.word-from.result in
    let d : f + 2 * a.k - f ≡ 2 * a.k = omega arith in
    let t = binary a.belief.absent a.belief.present in
    lent-sent t a.outs.now a.offsets.now a.l a.first a.k a.w.now c.requires.first_in_bounds.1 f (f + 2 * a.k - f) c.word-from.ensures.0 d
    (binary r.result.absent r.result.present) (binary c.logs-prior.result.absent c.logs-prior.result.present) _
    (λ o. omega (arith, c.if-k-eq1.false)) r.ensures.0 r.ensures.1 c.logs-prior.ensures.is-absent c.logs-prior.ensures.is-present c.send_each.ensures
