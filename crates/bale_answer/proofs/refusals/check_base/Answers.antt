-- `refusals::check_base` meets its contract.
use Rattle.std.proofs.Common.{sym}
use Rattle.definition.specs.Refusals.{or_refused}
use Rattle.bale_answer.proofs.refusals.check_base.Goals as goal

pub returns-then-is_zero_base : goal.returns-then-is_zero_base
unfolding or_refused
returns-then-is_zero_base c = rw (sym c.is_zero_base.ensures, c.if-is_zero_base.true)

pub returns : goal.returns
unfolding or_refused
returns c = rw (sym c.is_zero_base.ensures, c.if-is_zero_base.false)
