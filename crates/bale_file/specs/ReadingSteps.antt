-- The next word, as its tests decide it.
use Rattle.std.specs.Prelude.{ℕ, ◌≡◌, refl, Bool, true, false, ◌&&◌, List, [], ◌∷◌}
use Rattle.std.proofs.Common.{ap, ◌∙◌}
use Rattle.definition.specs.BaleFile.{word_kind, clean_word, may_follow}
use Rattle.bale_file.specs.Reading.{Held, good_after, spoilt, kept_word, read_word, read_words}

-- the two tests make up the one
pub good_parts : (j k w : ℕ) (a b : Bool) → k ≡ word_kind w → may_follow j k ≡ a → clean_word w ≡ b → good_after j w ≡ (a && b)
good_parts j k w a b e p q = rw (← e, p, q)

module _ (w : ℕ) (h : Held) (sound : h.reading.bad ≡ false) where
  pub read-spoilt : good_after h.reading.kind w ≡ false → spoilt h ≡ read_word w h
  unfolding read_word
  read-spoilt e = rw (sound, e)

  pub read_good : (k : ℕ) → k ≡ word_kind w → good_after h.reading.kind w ≡ true → kept_word w k h ≡ read_word w h
  unfolding read_word
  read_good k d e = rw (sound, e, d)

-- a bad word stays
pub stays : (ws : List ℕ) (h : Held) → h.reading.bad ≡ true → read_words ws h ≡ h
unfolding read_word read_words
stays [] h e = refl
stays (w ∷ ws) h e = ap (read_words ws) (let r : read_word w h ≡ h = rw e in r) ∙ stays ws h e
