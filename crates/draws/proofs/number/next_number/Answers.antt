-- `number::next_number` meets its contract.
use borrow.Author.Rules.{rules}
use Rattle.definition.specs.Trials.{next_number}
use Rattle.draws.proofs.number.next_number.Goals as goal

pub returns : goal.returns
unfolding next_number
returns c = search rules
