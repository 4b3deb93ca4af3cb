-- `call::try_settings` meets its contract.
use Rattle.std.proofs.Common.{◌/◌, length, replicate, arith, refl, sym}
use Rattle.std.proofs.Math.Bool.{false}
use Rattle.std.proofs.lemmas.Result.{err_from_is_err_and}
use Rattle.definition.specs.Report.{report_sizes}
use Rattle.reads.specs.Put.{read_floats}
use Rattle.reads.specs.Reported.{report_lent_with}
use Rattle.trials.specs.Each.{weak-long}
use Rattle.trials.specs.Called.{Triable, few_settings, call_refused, call_tried}
use Rattle.trials.proofs.call.try_settings.Goals as goal
use Rattle.trials.proofs.call.try_settings.Goals.{In_ok-check_trials}

-- an accepted call
triable :
    (c : In_ok-check_trials) → let a = c.args in
    Triable a.settings.now a.seed a.bales a.regularised a.tolerance a.loop_limit a.grades (length a.evidence.now / 2) a.pairs.now
    (report_lent_with a.work_floats.now a.work_numbers.now a.report.now)
unfolding report_sizes
triable c = let m = length c.args.evidence.now / 2 in sym (c.in_ok-check_trials.ensures (read_floats (replicate m false)) (weak-long m))

pub returns-in_err-check_trials : goal.returns-in_err-check_trials
unfolding report_sizes
returns-in_err-check_trials c =
    let a = c.args in
    let l = report_lent_with a.work_floats.now a.work_numbers.now a.report.now in
    let p = err_from_is_err_and c.from_residual.result c.from_residual.ensures.1 in
    rw (p.1, p.2)
    (call_refused a.settings.now a.seed a.bales a.regularised a.tolerance a.loop_limit a.grades a.evidence.now a.pairs.now l _
    (c.in_err-check_trials.ensures a.evidence.now refl))

pub try_accepted-requires : goal.try_accepted-requires
try_accepted-requires c = triable (goal.at.try_accepted-requires c).In_ok-check_trials

pub overflow_cast-result : goal.overflow_cast-result
overflow_cast-result c =
    let a = c.args in
    let l = report_lent_with a.work_floats.now a.work_numbers.now a.report.now in
    let h = triable (goal.at.overflow_cast-result c).In_ok-check_trials in
    omega (arith, few_settings a.settings.now a.seed a.bales a.regularised a.tolerance a.loop_limit a.grades _ a.pairs.now l h)

pub returns : goal.returns
returns c =
    let a = c.args in
    let l = report_lent_with a.work_floats.now a.work_numbers.now a.report.now in
    let h = triable (goal.at.returns c).In_ok-check_trials in
    call_tried a.settings.now a.seed a.bales a.regularised a.tolerance a.loop_limit a.grades a.evidence.now a.pairs.now l _ _ refl h c.try_accepted.ensures
