-- `call::count_patterns` meets its contract.
use Rattle.std.proofs.Common.{◌/◌, ◌≡◌, length, arith, rules, refl, sym, ap, ◌∙◌}
use Rattle.std.proofs.lemmas.Result.{err_from_is_err_and}
use Rattle.definition.specs.Settings.{settings_of}
use Rattle.definition.specs.Report.{report_sizes}
use Rattle.definition.specs.Patterns.{pattern_verdict}
use Rattle.pattern_laws.specs.Numbers.{pattern_at}
use Rattle.checks.specs.Verdicts.{verdict_of}
use Rattle.reads.specs.Put.{read_floats}
use Rattle.reads.specs.Reported.{report_lent_with}
use Rattle.patterns.specs.Called.{too_many_lem, call-judged, call_refused, call_countable, call-counted}
use Rattle.patterns.specs.Pattern.{pattern_bale, reads-many}
use Rattle.patterns.proofs.call.count_patterns.Goals as goal
use Rattle.patterns.proofs.call.count_patterns.Goals.{After-check_weak}

pub returns-then-markers-gt10 : goal.returns-then-markers-gt10
returns-then-markers-gt10 c =
    let a = c.args in
    too_many_lem _ a.grades a.evidence.now a.pairs.now (report_lent_with a.work_floats.now a.work_numbers.now a.report.now) c.if-markers-gt10.true

-- what the checks say
judged :
    (c : After-check_weak) → let a = c.args in
    verdict_of c.check_weak.result
    ≡ pattern_verdict (settings_of a.alpha a.beta a.prior a.regularised a.tolerance a.loop_limit)
    (report_sizes (report_lent_with a.work_floats.now a.work_numbers.now a.report.now)) (pattern_bale a.grades (length a.evidence.now / 2) 0 a.pairs.now)
unfolding report_sizes
judged c =
    let a = c.args in
    let m = length a.evidence.now / 2 in
    c.check_weak.ensures (read_floats (pattern_at m 0)) (reads-many m 0)
    ∙ call-judged _ a.grades a.evidence.now a.pairs.now (report_lent_with a.work_floats.now a.work_numbers.now a.report.now) m refl (omega arith)

pub returns-in_err-check_weak : goal.returns-in_err-check_weak
returns-in_err-check_weak c =
    let a = c.args in
    let p = err_from_is_err_and c.from_residual.result c.from_residual.ensures.1 in
    rw (p.1, p.2)
    (call_refused _ a.grades a.evidence.now a.pairs.now (report_lent_with a.work_floats.now a.work_numbers.now a.report.now) _ refl _
    (ap verdict_of (sym c.in_err-check_weak.was) ∙ judged (goal.at.returns-in_err-check_weak c).After-check_weak))

pub count_all-requires : goal.count_all-requires
count_all-requires c =
    let a = c.args in
    call_countable _ a.grades a.evidence.now a.pairs.now (report_lent_with a.work_floats.now a.work_numbers.now a.report.now) _ refl
    (ap verdict_of (sym c.in_ok-check_weak.was) ∙ judged (goal.at.count_all-requires c).After-check_weak) (omega arith) _ (search rules)

pub returns : goal.returns
returns c =
    let a = c.args in
    call-counted _ a.grades a.evidence.now a.pairs.now (report_lent_with a.work_floats.now a.work_numbers.now a.report.now) _ refl
    (ap verdict_of (sym c.in_ok-check_weak.was) ∙ judged (goal.at.returns c).After-check_weak) _ _ _ c.count_all.ensures
