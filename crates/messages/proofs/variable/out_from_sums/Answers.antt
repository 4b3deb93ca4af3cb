-- `messages::variable::out_from_sums` meets its contract.
use Rattle.definition.specs.Vectors.{binary}
use Rattle.messages.specs.Variable.{out-finite, out-from}
use Rattle.messages.proofs.variable.out_from_sums.Goals as goal

pub log_normalize-requires : goal.log_normalize-requires
log_normalize-requires c =
    let a = c.args in
    let p = c.requires in
    let o = c.logs-own in record {
      t = (
        out-finite a.sum.absent o.result.absent a.prior.absent p.wide.0 o.ensures.wide_absent p.wide.2,
        out-finite a.sum.present o.result.present a.prior.present p.wide.1 o.ensures.wide_present p.wide.3,
      );
    }

pub avoid_underflow-requires : goal.avoid_underflow-requires
avoid_underflow-requires c = tt

pub returns : goal.returns
returns c =
    let a = c.args in
    let o = c.logs-own in
    out-from (binary a.sum.absent a.sum.present) (binary a.prior.absent a.prior.present) (binary a.message.absent a.message.present) _ _ o.result.absent o.result.present
    o.ensures.is-absent o.ensures.is-present c.log_normalize.ensures c.avoid_underflow.ensures
