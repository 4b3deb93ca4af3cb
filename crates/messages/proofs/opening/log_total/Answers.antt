-- `messages::opening::log_total` meets its contract.
use Rattle.definition.specs.Vectors.{binary}
use Rattle.messages.specs.Pairs.{pairs}
use Rattle.messages.specs.Variable.{total-is}
use Rattle.messages.proofs.opening.log_total.Goals as goal

pub add_logs-requires : goal.add_logs-requires
add_logs-requires c = let p = c.requires in record { rows_len_bound = (p.rows_len_bound, c.logs.ensures.wide_absent, c.logs.ensures.wide_present) }

pub returns : goal.returns
returns c =
    let l = c.logs in
    let a = c.args in
    let b = binary a.belief.absent a.belief.present in
    let s = c.add_logs in (
      total-is 0 b (pairs a.rows.now) l.result.absent s.result.absent l.ensures.is-absent s.ensures.0,
      total-is 1 b (pairs a.rows.now) l.result.present s.result.present l.ensures.is-present s.ensures.1,
      s.ensures.2,
      s.ensures.3,
    )
