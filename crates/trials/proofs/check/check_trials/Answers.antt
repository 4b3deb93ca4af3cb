-- `check::check_trials` meets its contract. Each check decides, or leaves it to the next.
use native.Mathlib.Omega.{arith}
use mathlib.Core.Path.{sym, ap, ◌∙◌}
use borrow.Author.Tests.{eq-eqb, ne_eqb}
use lib.Ieee.{of_bits}
use Rattle.definition.specs.Trials.{settings_with}
use Rattle.graph_laws.specs.Bools.{or_no, no_ltb}
use Rattle.trials.specs.Checked.{with_three, refused_seed, refused_many, refused_markers, left-to-rest}
use Rattle.trials.proofs.check.check_trials.Goals as goal

pub returns-then-seed-eq0 : goal.returns-then-seed-eq0
returns-then-seed-eq0 c es e = refused_seed _ _ _ _ _ _ _ _ _ _ (eq-eqb _ _ c.if-seed-eq0.true)

pub returns-then-has_many : goal.returns-then-has_many
returns-then-has_many c es e = refused_many _ _ _ _ _ _ _ _ _ _ (ne_eqb _ _ c.if-seed-eq0.false) (sym c.has_many.ensures ∙ c.if-has_many.true)

pub returns-then-markers-gt1024 : goal.returns-then-markers-gt1024
returns-then-markers-gt1024 c es e =
    refused_markers _ _ _ _ _ _ _ _ _ _ (ne_eqb _ _ c.if-seed-eq0.false) (sym c.has_many.ensures ∙ c.if-has_many.false)
    (omega arith)

pub with_settings-requires : goal.with_settings-requires
with_settings-requires c = no_ltb _ _ (or_no _ _ (sym c.has_many.ensures ∙ c.if-has_many.false)).0

pub returns : goal.returns
unfolding of_bits settings_with
returns c es e =
    c.with_settings.ensures
    ∙ ap (with_three _) (c.check_weak-rest.ensures es e)
    ∙ left-to-rest _ _ _ _ _ _ _ _ _ _ (ne_eqb _ _ c.if-seed-eq0.false)
    (sym c.has_many.ensures ∙ c.if-has_many.false)
