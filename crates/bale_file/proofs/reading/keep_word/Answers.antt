-- `bale_file::reading::keep_word` meets its contract. Each test decides the kind.
use borrow.Author.Tests.{ne_eqb}
use Rattle.bale_file.specs.Reading.{kept_word}
use Rattle.bale_file.proofs.reading.keep_word.Goals as goal

pub returns-then-kind-eq1 : goal.returns-then-kind-eq1
unfolding kept_word
returns-then-kind-eq1 c = simp (c.saturating_add.ensures, c.if-kind-eq1.true)

pub returns-then-kind-eq2 : goal.returns-then-kind-eq2
unfolding kept_word
returns-then-kind-eq2 c = simp (c.saturating_add.ensures, c.if-kind-eq2.true)

pub returns-then-kind-eq3 : goal.returns-then-kind-eq3
unfolding kept_word
returns-then-kind-eq3 c = simp (c.saturating_add.ensures, c.if-kind-eq3.true)

pub returns-then-kind-eq7 : goal.returns-then-kind-eq7
unfolding kept_word
returns-then-kind-eq7 c = simp (c.saturating_add.ensures, c.if-kind-eq7.true)

pub returns-then-kind-eq4 : goal.returns-then-kind-eq4
unfolding kept_word
returns-then-kind-eq4 c = simp (c.saturating_add.ensures, c.put_word.ensures.0, c.put_word.ensures.1, c.if-kind-eq4.true)

pub returns-then-kind-eq5 : goal.returns-then-kind-eq5
unfolding kept_word
returns-then-kind-eq5 c = simp (c.saturating_add.ensures, c.put_word-then-kind-eq5.ensures.0, c.put_word-then-kind-eq5.ensures.1, c.if-kind-eq5.true)

pub returns-else-kind-eq5 : goal.returns-else-kind-eq5
unfolding kept_word
returns-else-kind-eq5 c = simp (c.saturating_add.ensures, ne_eqb _ _ c.if-kind-eq1.false, ne_eqb _ _ c.if-kind-eq2.false, ne_eqb _ _ c.if-kind-eq3.false, ne_eqb _ _ c.if-kind-eq7.false, ne_eqb _ _ c.if-kind-eq4.false, ne_eqb _ _ c.if-kind-eq5.false)
