-- `bale_file::decoder::feed_byte` meets its contract.
use Rattle.bale_file.specs.Feeding.{fourth}
use Rattle.bale_file.specs.Decoder.{fed_at, fed_byte}
use Rattle.bale_file.proofs.decoder.feed_byte.Goals as goal

pub returns-then-filled-eq0 : goal.returns-then-filled-eq0
unfolding fed_at fed_byte
returns-then-filled-eq0 c = rw c.if-filled-eq0.true

pub returns-then-filled-eq1 : goal.returns-then-filled-eq1
unfolding fed_at fed_byte
returns-then-filled-eq1 c = rw c.if-filled-eq1.true

pub returns-then-filled-eq2 : goal.returns-then-filled-eq2
unfolding fed_at fed_byte
returns-then-filled-eq2 c = rw c.if-filled-eq2.true

pub returns : goal.returns
returns c =
    fourth c.args.byte _ _ _ c.if-filled-eq0.false c.if-filled-eq1.false c.if-filled-eq2.false c.word_of-word.ensures c.read_word-reading.ensures
