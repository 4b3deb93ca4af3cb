-- `messages::belief::marginal` meets its contract.
use lib.Ieee.{of_bits}
use Rattle.definition.specs.Vectors.{binary}
use Rattle.messages.specs.Pairs.{pairs}
use Rattle.messages.specs.Variable.{belief_finite, zero_wide, marginal_log, marginal-is}
use Rattle.messages.proofs.belief.marginal.Goals as goal

pub add_logs-sum-requires : goal.add_logs-sum-requires
unfolding of_bits
add_logs-sum-requires c = let p = c.requires in record { rows_len_bound = (p.rows_len_bound, zero_wide, zero_wide) }

pub log_normalize-requires : goal.log_normalize-requires
log_normalize-requires c =
    let p = c.logs-prior in
    let s = c.add_logs-sum in
    record { t = (belief_finite p.result.absent s.result.absent p.ensures.wide_absent s.ensures.2, belief_finite p.result.present s.result.present p.ensures.wide_present s.ensures.3) }

pub returns : goal.returns
unfolding of_bits
returns c =
    let a = c.args in
    let b = binary a.belief.absent a.belief.present in
    let p = c.logs-prior in
    let s = c.add_logs-sum in
    marginal-is b (pairs a.rows.now) _ _ _
    (marginal_log 0 b (pairs a.rows.now) p.result.absent s.result.absent p.ensures.is-absent s.ensures.0)
    (marginal_log 1 b (pairs a.rows.now) p.result.present s.result.present p.ensures.is-present s.ensures.1)
    c.log_normalize.ensures
