-- `zero_lookahead::pending::end_at` meets its contract.
use Rattle.zero_lookahead.specs.StepReads.{back-there}
use Rattle.zero_lookahead.proofs.pending.end_at.Goals as goal

pub word-back-requires : goal.word-back-requires
word-back-requires c =
    let a = c.args in
    rw c.outs_row.ensures (back-there a.out a.words.now c.requires.0 a.d c.requires.1).0

pub word-requires : goal.word-requires
word-requires c =
    let a = c.args in
    rw (c.starts_row.ensures, c.word-back.ensures.0, c.outs_row.ensures) (back-there a.out a.words.now c.requires.0 a.d c.requires.1).1

pub returns : goal.returns
returns c =
    (rw (← c.starts_row.ensures, ← c.outs_row.ensures, ← c.word-back.ensures.0) c.word.ensures.0, c.word.ensures.1)
