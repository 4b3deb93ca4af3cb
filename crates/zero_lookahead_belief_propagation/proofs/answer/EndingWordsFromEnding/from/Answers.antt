-- What an ending is answered as is what the definition says of it.
use Rattle.std.proofs.Common.{rules, refl, ap}
use Rattle.std.specs.Float.Ieee.{of_bits}
use Rattle.definition.specs.Answer.{ending_number, ending_residual}
use Rattle.part.specs.Ending.{ending_from}
use Rattle.zero_lookahead_belief_propagation.proofs.answer.EndingWordsFromEnding.from.Goals as goal

pub returns-in-Limit : goal.returns-in-Limit
unfolding ending_number ending_residual
returns-in-Limit c = search rules

pub returns-in-Settled : goal.returns-in-Settled
unfolding ending_number ending_residual
returns-in-Settled c = search rules

pub returns-in-Empty : goal.returns-in-Empty
unfolding ending_number ending_residual of_bits
returns-in-Empty c = rw (ap ending_from c.in-Empty.is) (refl, refl)
