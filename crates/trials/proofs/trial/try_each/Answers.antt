-- `trial::try_each` meets its contract. The loop's invariant: the first i settings are reported, and the work is as it was.
use Rattle.std.proofs.Common.{arith, sym, ap, ◌∙◌, subst}
use Rattle.std.proofs.Math.ListN.{length-set}
use Rattle.definition.specs.Trials.{TrialSetting}
use Rattle.trial_laws.specs.Accepted.{InThousands}
use Rattle.reads.specs.Ran.{settings_in}
use Rattle.trials.specs.Bale.{tryable_same}
use Rattle.trials.specs.Setting.{under_setting, TriedSetting}
use Rattle.trials.specs.Each.{length-settings, numbers_at, setting_inside, under_same, each_next, each_done}
use Rattle.trials.proofs.trial.try_each.Goals as goal

pub settings_under-under-requires : goal.settings_under-under-requires
settings_under-under-requires c =
    subst InThousands (sym c.setting_at-setting.ensures) (setting_inside c.args.settings.now c.loop-i.i (omega arith) c.requires.settings)

pub try_setting-trial-requires : goal.try_setting-trial-requires
try_setting-trial-requires c =
    let a = c.args in
    let l = c.loop-i in
    let t = numbers_at a.settings.now l.i in
    let under =
    c.settings_under-under.ensures
    ∙ ap (λ (u : TrialSetting). under_setting u a.regularised a.tolerance a.loop_limit) c.setting_at-setting.ensures
    ∙ under_same a.settings.now a.seed a.bales a.regularised a.tolerance a.loop_limit a.grades a.markers a.pairs.now t
    in
    let inside = setting_inside a.settings.now l.i (omega arith) c.requires.settings in
    (tryable_same _ _ _ _ _ _ _ _ _ under l.invariant.floats l.invariant.numbers (c.requires.each t inside), c.requires.bales)

pub bounds-report-i : goal.bounds-report-i
bounds-report-i c = omega (arith, c.requires.report, length-settings c.args.settings.now)

pub bounds-report-i-in-loop-i : goal.bounds-report-i-in-loop-i
bounds-report-i-in-loop-i c = simp length-set (omega (arith, c.requires.report, length-settings c.args.settings.now))

pub loop-i-preserved : goal.loop-i-preserved
loop-i-preserved c =
    let a = c.args in
    let l = c.loop-i in
    let q = c.try_setting-trial in
    let given = c.setting_at-setting.ensures in
    let under = c.settings_under-under.ensures ∙ ap (λ (u : TrialSetting). under_setting u a.regularised a.tolerance a.loop_limit) given in
    let tried =
    subst (λ (u : TrialSetting). TriedSetting (settings_in c.settings_under-under.result) u a.grades a.markers a.pairs.now a.bales a.seed q.result) given
    q.ensures.tried_setting
    in
    record {
      floats = q.ensures.work_floats_unchanged.0 ∙ l.invariant.floats;
      numbers = q.ensures.work_floats_unchanged.1 ∙ l.invariant.numbers;
      each =
          each_next a.settings.now a.seed a.bales a.regularised a.tolerance a.loop_limit a.grades a.markers a.pairs.now a.report.now l.i _ _ q.result (omega arith)
          (omega (arith, c.requires.report, length-settings a.settings.now)) l.invariant.each under tried;
    }

pub returns-clause-report_after : goal.returns-clause-report_after
returns-clause-report_after c = each_done _ _ _ _ _ _ _ _ _ _ c.loop-i.i _ (omega arith) c.loop-i.invariant.each
