-- `messages::variable::out_message_variable` meets its contract.
use mathlib.Core.Path.{ap, ◌∙◌}
use Prim.Native.Nat.{◌≤◌, ◌<◌}
use native.Mathlib.Omega.{arith}
use lib.ListN.{length}
use Rattle.definition.specs.Vectors.{binary, sum_logs_batched}
use Rattle.array_utils.specs.Columns as columns
use Rattle.messages.specs.Pairs.{pairs, length_pairs, absents-pairs, presents-pairs}
use Rattle.messages.specs.Variable.{batched_wide, out_single, out_from_sums, out-many}
use Rattle.messages.proofs.variable.out_message_variable.Goals as goal

pub returns-then-rows-le1 : goal.returns-then-rows-le1
returns-then-rows-le1 c =
    let a = c.args in
    let h : length (pairs a.rows.now) ≤ 1 = omega (arith, length_pairs a.rows.now, c.if-rows-le1.true) in
    out_single (binary a.belief.absent a.belief.present) (pairs a.rows.now) a.i h

pub message_at-requires : goal.message_at-requires
message_at-requires c = c.requires.i_in_bounds.0

pub out_from_sums-requires : goal.out_from_sums-requires
out_from_sums-requires c =
    let l = c.args.rows.now in
    let few = c.requires.i_in_bounds.1 in
    let r = c.sum_logs_batched-sum in
    record { wide = (batched_wide columns.absent l r.result.absent few r.ensures.0, batched_wide columns.present l r.result.present few r.ensures.1, c.logs-prior.ensures.wide_absent, c.logs-prior.ensures.wide_present) }

pub returns : goal.returns
returns c =
    let p = c.logs-prior in
    let r = c.sum_logs_batched-sum in
    let a = c.args in
    let l = a.rows.now in
    let h : 1 < length (pairs l) = omega (arith, length_pairs l, c.if-rows-le1.false) in
    let sums = binary r.result.absent r.result.present in
    let prior = binary p.result.absent p.result.present in
    c.out_from_sums.ensures
    ∙ ap (out_from_sums sums prior) c.message_at.ensures
    ∙ out-many (binary a.belief.absent a.belief.present) (pairs l) sums prior h (r.ensures.0 ∙ ap sum_logs_batched (absents-pairs l)) (r.ensures.1 ∙ ap sum_logs_batched (presents-pairs l)) p.ensures.is-absent p.ensures.is-present a.i
