-- `messages::opening::leave_one_out` meets its contract.
use Rattle.definition.specs.Vectors.{binary}
use Rattle.messages.specs.Variable.{less_finite, left_out}
use Rattle.messages.proofs.opening.leave_one_out.Goals as goal

pub log_normalize-requires : goal.log_normalize-requires
log_normalize-requires c =
    let p = c.requires in
    let t = c.args.total in
    let o = c.logs-own in
    record { t = (less_finite t.absent o.result.absent p.wide.0 o.ensures.wide_absent, less_finite t.present o.result.present p.wide.1 o.ensures.wide_present) }

pub avoid_underflow-requires : goal.avoid_underflow-requires
avoid_underflow-requires c = tt

pub returns : goal.returns
returns c =
    let a = c.args in
    let o = c.logs-own in
    left_out a.total.absent a.total.present o.result.absent o.result.present (binary a.message.absent a.message.present) _ _
    o.ensures.is-absent o.ensures.is-present c.log_normalize.ensures c.avoid_underflow.ensures
