-- `zero_lookahead::pending::first_of` meets its contract.
use Rattle.zero_lookahead.proofs.pending.first_of.Goals as goal

pub word-requires : goal.word-requires
word-requires c = rw c.firsts_row-firsts.ensures c.requires.1

pub returns : goal.returns
returns c = rw (← c.firsts_row-firsts.ensures) c.word.ensures.0
