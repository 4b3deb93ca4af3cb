-- `check::with_settings` meets its contract.
use Rattle.std.specs.Prelude.{Result}
use Rattle.std.proofs.Common.{ℕ, ◌≡◌, arith, sym, ap, ◌∙◌}
use Rattle.std.proofs.Math.Option.{Option}
use Rattle.definition.specs.Refusals.{or_refused}
use Rattle.checks.specs.declared.refusal.Refusal.{Refusal}
use Rattle.checks.specs.Verdicts.{verdict_of, skip, passed, failed, returned}
use Rattle.trials.specs.Checked.{with_three, three-behind, three_ahead}
use Rattle.trials.proofs.check.with_settings.Goals as goal
use Rattle.trials.proofs.check.with_settings.Goals.{After-check_settings, in-Err+else-number-lt3, in_default}

pub returns-then-number-lt3 : goal.returns-then-number-lt3
returns-then-number-lt3 c = three-behind _ _ _ _ (ap verdict_of c.in-Err.is) (omega arith)

-- past numbers 1 and 2
past : (c : After-check_settings) (o : Option ℕ) → with_three o (verdict_of c.args.rest) ≡ or_refused 3 o (verdict_of c.match-rest.rest)
past c o =
    elim c.match-rest.branch [
      | in-Err+else-number-lt3 w ↦
          ap (λ (v : Result Unit Refusal). with_three o (verdict_of v)) w.in-Err.is
          ∙ three_ahead o _ _ (omega (arith, w.number.ensures))
          ∙ ap (λ (v : Result Unit Refusal). or_refused 3 o (verdict_of v)) (sym w.rest-is)
      | in_default w ↦
          ap (λ (v : Result Unit Refusal). with_three o (verdict_of v)) w.in_default.is
          ∙ ap (λ (v : Result Unit Refusal). or_refused 3 o (verdict_of v)) (sym w.in_default.is ∙ sym w.rest-is)
    ]

pub returns-in_err-refuse : goal.returns-in_err-refuse
returns-in_err-refuse c =
    returned _ _ c.from_residual.ensures.1
    ∙ failed 3 _ _ _ _ _ c.in_err-refuse.ensures c.check_settings.ensures
    ∙ sym (past (goal.at.returns-in_err-refuse c).After-check_settings _)

pub returns : goal.returns
returns c = sym (past (goal.at.returns c).After-check_settings _ ∙ skip 3 _ _ (passed 3 _ _ c.in_ok-refuse.ensures c.check_settings.ensures))
