-- `call::calibrate_all_subgraphs` meets its contract, which asks for nothing.
use Rattle.std.proofs.Common.{◌≡◌, arith, sym}
use Rattle.std.proofs.lemmas.Result.{err_from_is_err_and}
use Rattle.definition.specs.Call.{sizes_of}
use Rattle.definition.specs.Refusals.{bale_of, accepted, verdict}
use Rattle.definition.specs.Settings.{settings_of}
use Rattle.graph_laws.specs.CallLengths.{call_refused}
use Rattle.zero_lookahead_belief_propagation.specs.Called.{lent_with, all_fit, by_parts, call-counted, floats_in, numbers_in, call_asks, counts_small, call_answered}
use Rattle.zero_lookahead_belief_propagation.proofs.call.calibrate_all_subgraphs.Goals as goal
use Rattle.zero_lookahead_belief_propagation.proofs.call.calibrate_all_subgraphs.Goals.{In_ok-judge}

passed :
    (c : In_ok-judge) → let a = c.args in
    verdict (settings_of a.alpha a.beta a.prior a.regularised a.tolerance a.loop_limit)
    (sizes_of (lent_with a.work_floats.now a.work_numbers.now a.belief_numbers.now a.belief_floats.now a.ending_numbers.now a.ending_floats.now))
    (bale_of a.grades a.evidence.now a.pairs.now)
    ≡ accepted
unfolding sizes_of
passed c = sym c.in_ok-judge.ensures

pub returns-in_err-judge-clause-ending_floats_after : goal.returns-in_err-judge-clause-ending_floats_after
unfolding sizes_of
returns-in_err-judge-clause-ending_floats_after c =
    let a = c.args in
    let p = err_from_is_err_and c.from_residual.result c.from_residual.ensures.1 in
    let l = lent_with a.work_floats.now a.work_numbers.now a.belief_numbers.now a.belief_floats.now a.ending_numbers.now a.ending_floats.now in
    rw (p.1, p.2)
    (sym
    (call_refused (settings_of a.alpha a.beta a.prior a.regularised a.tolerance a.loop_limit) a.grades a.evidence.now a.pairs.now l _ _
    (sym c.in_err-judge.ensures)))

pub overflow_mul-needed : goal.overflow_mul-needed
overflow_mul-needed c = omega (arith, call-counted _ _ _ _ _ (passed (goal.at.overflow_mul-needed c).In_ok-judge))

pub overflow_add-needed-3 : goal.overflow_add-needed-3
overflow_add-needed-3 c = omega (arith, call-counted _ _ _ _ _ (passed (goal.at.overflow_add-needed-3 c).In_ok-judge))

pub slice_bounds-calibrate_accepted-end : goal.slice_bounds-calibrate_accepted-end
slice_bounds-calibrate_accepted-end c = omega (arith, floats_in _ _ _ _ _ (passed (goal.at.slice_bounds-calibrate_accepted-end c).In_ok-judge))

pub slice_bounds-calibrate_accepted-end-2 : goal.slice_bounds-calibrate_accepted-end-2
slice_bounds-calibrate_accepted-end-2 c = omega (arith, numbers_in _ _ _ _ _ (passed (goal.at.slice_bounds-calibrate_accepted-end-2 c).In_ok-judge))

pub calibrate_accepted-filled-requires : goal.calibrate_accepted-filled-requires
calibrate_accepted-filled-requires c = call_asks _ _ _ _ _ (passed (goal.at.calibrate_accepted-filled-requires c).In_ok-judge)

pub overflow_cast-result : goal.overflow_cast-result
overflow_cast-result c =
    omega (arith, (counts_small _ _ _ _ _ (passed (goal.at.overflow_cast-result c).In_ok-judge) _ _ _ c.calibrate_accepted-filled.ensures.written).0)

pub overflow_cast-result-2 : goal.overflow_cast-result-2
overflow_cast-result-2 c =
    omega (arith, (counts_small _ _ _ _ _ (passed (goal.at.overflow_cast-result-2 c).In_ok-judge) _ _ _ c.calibrate_accepted-filled.ensures.written).1)

pub returns : goal.returns
returns c =
    let r = c.calibrate_accepted-filled.ensures in
    let g = c.well_formed in
    let h =
    by_parts _ _ _ _ _ (all_fit _ _ _ _ g.0.1 g.1.0.1 g.1.1.0.1 c.type_inv.evidence) _
    (call_answered _ _ _ _ _ (passed (goal.at.returns c).In_ok-judge) _ _ _ r.written _ _ r.w_after.0 r.w_after.1)
    in
    record { ending_floats_after = h.0; answered_by_parts = h.1 }
