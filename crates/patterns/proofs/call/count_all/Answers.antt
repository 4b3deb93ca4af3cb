-- `call::count_all` meets its contract.
use Rattle.std.proofs.Common.{ℕ, ◌^◌, ◌≡◌, length, arith, ap, ◌∙◌}
use Rattle.definition.specs.Call.{overwrite}
use Rattle.reads.specs.Ran.{settings_in}
use Rattle.patterns.specs.Tally.{started}
use Rattle.patterns.specs.All.{Countable, total-is, countable_started, so_ready, so_next, so_start, so_done}
use Rattle.patterns.proofs.call.count_all.Goals as goal
use Rattle.patterns.proofs.call.count_all.Goals.{After-start_report}

-- the report that was started
begun : (c : After-start_report) → c.start_report.new.report ≡ overwrite (started c.args.grades (2 ^ c.args.markers)) c.args.report.now
begun c = c.start_report.ensures ∙ ap (λ (n : ℕ). overwrite (started c.args.grades n) c.args.report.now) (total-is c.args.markers c.requires.markers)

countable :
    (c : After-start_report) → let a = c.args in
    Countable (settings_in a.settings) a.grades a.markers a.pairs.now (length a.evidence.now) (length a.work_floats.now) (length a.work_numbers.now)
    (length c.start_report.new.report)
countable c = countable_started _ _ _ _ _ _ _ _ c.args.report.now c.start_report.new.report c.requires (begun c)

pub loop-p-init : goal.loop-p-init
loop-p-init c =
    let a = c.args in
    let s = (goal.at.loop-p-init c).After-start_report in
    so_start _ a.grades a.markers a.pairs.now a.work_floats.now a.work_numbers.now c.start_report.new.report _ (countable s) a.report.now (begun s)

pub count_pattern-requires-clause-ready : goal.count_pattern-requires-clause-ready
count_pattern-requires-clause-ready c =
    let a = c.args in
    let l = c.loop-p in
    let s = (goal.at.count_pattern-requires-clause-ready c).After-start_report in
    so_ready _ a.grades a.markers a.pairs.now a.work_floats.now a.work_numbers.now c.start_report.new.report _ (countable s) l.p _ _ _ _ l.invariant
    (omega (arith, total-is a.markers c.requires.markers))

pub loop-p-preserved : goal.loop-p-preserved
loop-p-preserved c =
    let a = c.args in
    let l = c.loop-p in
    let s = (goal.at.loop-p-preserved c).After-start_report in
    so_next _ a.grades a.markers a.pairs.now a.work_floats.now a.work_numbers.now c.start_report.new.report _ (countable s) l.p _ _ _ _ _ _ _ _ l.invariant
    (omega (arith, total-is a.markers c.requires.markers)) c.count_pattern.ensures c.count_pattern.auto.evidence

pub returns : goal.returns
returns c =
    let a = c.args in
    let l = c.loop-p in
    let s = (goal.at.returns c).After-start_report in
    so_done _ a.grades a.markers a.pairs.now a.work_floats.now a.work_numbers.now c.start_report.new.report _ (countable s) a.report.now (begun s) l.p _ _ _ _
    l.invariant (omega (arith, total-is a.markers c.requires.markers))
