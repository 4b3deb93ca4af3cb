-- `refusals::check_file` meets its contract.
use Rattle.definition.specs.Refusals.{or_refused}
use Rattle.bale_answer.proofs.refusals.check_file.Goals as goal

pub returns-in-Err : goal.returns-in-Err
unfolding or_refused
returns-in-Err c = rw (← c.in-Err.ensures)

pub returns : goal.returns
unfolding or_refused
returns c = rw (← c.in_default.ensures)
