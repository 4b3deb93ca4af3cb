-- `zero_lookahead::pending::start_at` meets its contract.
use Rattle.zero_lookahead.specs.StepReads.{way-there}
use Rattle.zero_lookahead.proofs.pending.start_at.Goals as goal

pub word-requires : goal.word-requires
word-requires c =
    let a = c.args in
    rw c.starts_row.ensures (way-there a.out a.words.now c.requires.0 a.d c.requires.1)

pub returns : goal.returns
returns c = (rw (← c.starts_row.ensures) c.word.ensures.0, c.word.ensures.1)
