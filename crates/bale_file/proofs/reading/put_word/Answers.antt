-- `bale_file::reading::put_word` meets its contract.
use mathlib.Core.Path.{sym, ◌∙◌}
use borrow.Author.Tests.{lt-ltb, le-ltb}
use lib.Seq.{set_out}
use Rattle.bale_file.specs.Reading.{one_more, put_at}
use Rattle.bale_file.proofs.reading.put_word.Goals as goal
use Rattle.bale_file.proofs.reading.put_word.Goals.{then-at-words, else-at-words}

pub returns-then-count-lt-MOST_WORDS : goal.returns-then-count-lt-MOST_WORDS
unfolding one_more put_at
returns-then-count-lt-MOST_WORDS c =
    let e = lt-ltb _ _ c.if-count-lt-MOST_WORDS.true in
    (rw e, rw e (elim c.if-at-words.branch [ then-at-words w ↦ w.words-is | else-at-words w ↦ w.words-is ∙ sym (set_out _ _ _ w.if-at-words.false) ]))

pub returns : goal.returns
unfolding one_more put_at
returns c = (rw (le-ltb _ _ c.if-count-lt-MOST_WORDS.false), rw (le-ltb _ _ c.if-count-lt-MOST_WORDS.false))
