-- `checks::check_stopping` meets its contract. The two tests, in their order.
use mathlib.Core.Path.{sym, ◌∙◌}
use borrow.Author.Tests.{lt-ltb, le-ltb}
use Rattle.definition.specs.Refusals.{lowest_place, lowest_place_from}
use Rattle.checks.proofs.check_stopping.Goals as goal

pub returns-then-is_bad_tolerance : goal.returns-then-is_bad_tolerance
unfolding lowest_place lowest_place_from
returns-then-is_bad_tolerance c = simp (sym c.is_bad_tolerance.ensures ∙ c.if-is_bad_tolerance.true)

pub returns-then-loop_limit-gt1000000 : goal.returns-then-loop_limit-gt1000000
unfolding lowest_place lowest_place_from
returns-then-loop_limit-gt1000000 c = simp (sym c.is_bad_tolerance.ensures ∙ c.if-is_bad_tolerance.false, lt-ltb _ _ c.if-loop_limit-gt1000000.true)

pub returns : goal.returns
unfolding lowest_place lowest_place_from
returns c = simp (sym c.is_bad_tolerance.ensures ∙ c.if-is_bad_tolerance.false, le-ltb _ _ c.if-loop_limit-gt1000000.false)
