-- `refusals::check_size` meets its contract.
use Rattle.std.proofs.Common.{sym}
use Rattle.definition.specs.Refusals.{or_refused, lowest_place, lowest_place_from}
use Rattle.bale_answer.proofs.refusals.check_size.Goals as goal

pub returns-then-is_too_many : goal.returns-then-is_too_many
unfolding or_refused lowest_place lowest_place_from
returns-then-is_too_many c = rw (sym c.grade_count-grades.ensures, sym c.is_too_many.ensures, c.if-is_too_many.true)

pub returns : goal.returns
unfolding or_refused lowest_place lowest_place_from
returns c = rw (sym c.grade_count-grades.ensures, sym c.is_too_many.ensures, c.if-is_too_many.false)
