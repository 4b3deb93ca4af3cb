-- `bale_file::reading::read_word` meets its contract.
use mathlib.Core.Bool.{true, false}
use mathlib.Core.Path.{refl, sym, ◌∙◌}
use Rattle.bale_file.specs.ReadingSteps.{good_parts, read-spoilt, read_good}
use Rattle.bale_file.specs.Reading.{spoilt, read_word}
use Rattle.bale_file.proofs.reading.read_word.Goals as goal

pub returns-then-reading : goal.returns-then-reading
unfolding read_word
returns-then-reading c = rw c.if-reading.true

pub returns-then-not-may_follow : goal.returns-then-not-may_follow
unfolding spoilt
returns-then-not-may_follow c =
    read-spoilt _ _ c.if-reading.false (good_parts _ _ _ false _ c.kind_of-kind.ensures (sym c.may_follow.ensures ∙ c.if-not-may_follow.true) refl)

pub returns-then-not-is_clean : goal.returns-then-not-is_clean
unfolding spoilt
returns-then-not-is_clean c =
    read-spoilt _ _ c.if-reading.false
    (good_parts _ _ _ true false c.kind_of-kind.ensures (sym c.may_follow.ensures ∙ c.if-not-may_follow.false) (sym c.is_clean.ensures ∙ c.if-not-is_clean.true))

pub returns : goal.returns
returns c =
    rw c.keep_word.ensures
    (read_good _ _ c.if-reading.false _ c.kind_of-kind.ensures
    (good_parts _ _ _ true true c.kind_of-kind.ensures (sym c.may_follow.ensures ∙ c.if-not-may_follow.false)
    (sym c.is_clean.ensures ∙ c.if-not-is_clean.false)))
