-- `call::try_accepted` meets its contract.
use Prim.Native.Nat.{ℕ, ◌+◌, ◌-◌, ◌*◌, ◌/◌, ◌≤◌}
use native.Mathlib.Omega.{arith}
use mathlib.Core.Path.{◌≡◌, ◌∙◌}
use lib.ListN.{length}
use Rattle.definition.specs.Floats.{zeroᶠ}
use Rattle.definition.specs.Refusals.{work_needed}
use Rattle.definition.specs.Report.{ReportLent}
use Rattle.reads.specs.Reported.{report_lent_with}
use Rattle.trials.specs.Bale.{weak_bale}
use Rattle.trials.specs.Called.{cleared, few_grades, few_markers, few_pairs, work-is, floats_room, numbers_room, settings_tryable}
use Rattle.trials.proofs.call.try_accepted.Goals as goal
use Rattle.trials.proofs.call.try_accepted.Goals.{Start}

-- what the call was given, and what is known of it

abbrev lent : (s : Start) → ReportLent
lent s = report_lent_with s.args.work_floats.now s.args.work_numbers.now s.args.report.now

abbrev needed : (s : Start) → ℕ
needed s = 64 * (s.args.grades + s.args.markers + length s.args.pairs.now / 2) + 4096

grades : (s : Start) → s.args.grades ≤ 1024
grades s = let a = s.args in few_grades a.settings.now a.seed a.bales a.regularised a.tolerance a.loop_limit a.grades a.markers a.pairs.now (lent s) s.requires

markers : (s : Start) → s.args.markers ≤ 1024
markers s = let a = s.args in few_markers a.settings.now a.seed a.bales a.regularised a.tolerance a.loop_limit a.grades a.markers a.pairs.now (lent s) s.requires

pairs : (s : Start) → length s.args.pairs.now / 2 ≤ 8192
pairs s = let a = s.args in few_pairs a.settings.now a.seed a.bales a.regularised a.tolerance a.loop_limit a.grades a.markers a.pairs.now (lent s) s.requires

floats : (s : Start) → (needed s) ≤ length s.args.work_floats.now
floats s = let a = s.args in floats_room a.settings.now a.seed a.bales a.regularised a.tolerance a.loop_limit a.grades a.markers a.pairs.now (lent s) s.requires

numbers : (s : Start) → (needed s) ≤ length s.args.work_numbers.now
numbers s = let a = s.args in numbers_room a.settings.now a.seed a.bales a.regularised a.tolerance a.loop_limit a.grades a.markers a.pairs.now (lent s) s.requires

pub overflow_add-needed : goal.overflow_add-needed
overflow_add-needed c = omega (arith, grades c.before.before.before.before.before.before, markers c.before.before.before.before.before.before, pairs c.before.before.before.before.before.before)

pub overflow_add-needed-2 : goal.overflow_add-needed-2
overflow_add-needed-2 c = omega (arith, grades c.before.before.before.before.before.before, markers c.before.before.before.before.before.before, pairs c.before.before.before.before.before.before)

pub overflow_mul-needed : goal.overflow_mul-needed
overflow_mul-needed c = omega (arith, grades c.before.before.before.before.before.before, markers c.before.before.before.before.before.before, pairs c.before.before.before.before.before.before)

pub overflow_add-needed-3 : goal.overflow_add-needed-3
overflow_add-needed-3 c = omega (arith, grades c.before.before.before.before.before.before, markers c.before.before.before.before.before.before, pairs c.before.before.before.before.before.before)

pub slice_bounds-clear_work-end : goal.slice_bounds-clear_work-end
slice_bounds-clear_work-end c = omega (arith, floats c.before.before.before.before.before.before)

pub slice_bounds-clear_work-end-2 : goal.slice_bounds-clear_work-end-2
slice_bounds-clear_work-end-2 c = omega (arith, numbers c.before.before.before.before.before.before.before)

pub try_each-requires : goal.try_each-requires
try_each-requires c =
    let a = c.args in
    let z = c.clear_work.ensures in
    let e : needed c.before.before.before.before.before.before.before.before.before.before.before.before.before.before.before.before - 0 ≡ work_needed (weak_bale a.grades a.markers a.pairs.now) = omega (arith, work-is a.settings.now a.seed a.bales a.regularised a.tolerance a.loop_limit a.grades a.markers a.pairs.now (lent c.before.before.before.before.before.before.before.before.before.before.before.before.before.before.before.before) c.requires) in
    let F = cleared zeroᶠ a.work_floats.now _ (needed c.before.before.before.before.before.before.before.before.before.before.before.before.before.before.before.before - 0) _ e (omega (arith, floats c.before.before.before.before.before.before.before.before.before.before.before.before.before.before.before.before)) z.0 in
    let N = cleared 0 a.work_numbers.now _ (needed c.before.before.before.before.before.before.before.before.before.before.before.before.before.before.before.before - 0) _ e (omega (arith, numbers c.before.before.before.before.before.before.before.before.before.before.before.before.before.before.before.before)) z.1 in
    settings_tryable a.settings.now a.seed a.bales a.regularised a.tolerance a.loop_limit a.grades a.markers a.pairs.now (lent c.before.before.before.before.before.before.before.before.before.before.before.before.before.before.before.before) c.requires _ _ F N

pub returns : goal.returns
returns c =
    let a = c.args in
    let z = c.clear_work.ensures in
    let e : needed c.before.before.before.before.before.before.before.before.before.before.before.before.before.before.before.before.before.before.before.before.before.before.before - 0 ≡ work_needed (weak_bale a.grades a.markers a.pairs.now) = omega (arith, work-is a.settings.now a.seed a.bales a.regularised a.tolerance a.loop_limit a.grades a.markers a.pairs.now (lent c.before.before.before.before.before.before.before.before.before.before.before.before.before.before.before.before.before.before.before.before.before.before.before) c.requires) in
    let F = cleared zeroᶠ a.work_floats.now _ (needed c.before.before.before.before.before.before.before.before.before.before.before.before.before.before.before.before.before.before.before.before.before.before.before - 0) _ e (omega (arith, floats c.before.before.before.before.before.before.before.before.before.before.before.before.before.before.before.before.before.before.before.before.before.before.before)) z.0 in
    let N = cleared 0 a.work_numbers.now _ (needed c.before.before.before.before.before.before.before.before.before.before.before.before.before.before.before.before.before.before.before.before.before.before.before - 0) _ e (omega (arith, numbers c.before.before.before.before.before.before.before.before.before.before.before.before.before.before.before.before.before.before.before.before.before.before.before)) z.1 in
    let q = c.try_each.ensures in
    record { work_floats = q.work_floats_unchanged.0 ∙ F; work_numbers = q.work_floats_unchanged.1 ∙ N; report = q.report_after }
