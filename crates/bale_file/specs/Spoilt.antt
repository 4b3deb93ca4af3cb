-- Whether a word is bad among those read so far: what comes after them changes nothing then.
use Rattle.std.specs.Prelude.{ℕ, ◌≡◌, refl, Bool, true, false, cond, List, [], ◌∷◌}
use Rattle.std.proofs.Common.{sym, ap, ◌∙◌}
use Rattle.definition.specs.BaleFile.{words, word_kind}
use Rattle.bale_file.specs.Reading.{Held, held_of, good_after, spoilt, kept_word, read_word, read_words}
use Rattle.bale_file.specs.ReadingSteps.{read-spoilt, read_good, stays}
use Rattle.bale_file.specs.Decoder.{fed_of, started, fed}
use Rattle.bale_file.specs.Decoded.{fed-held}

-- j is the kind before the first of these words
unfoldable pub bad_among : ℕ → List ℕ → Bool
bad_among j [] = false
bad_among j (w ∷ ws) = cond (good_after j w) (bad_among (word_kind w) ws) true

bad_among_lem : (ws : List ℕ) (h : Held) → h.reading.bad ≡ false → (read_words ws h).reading.bad ≡ bad_among h.reading.kind ws
unfolding bad_among read_words kept_word spoilt
bad_among_lem [] h s = s
bad_among_lem (w ∷ ws) h s = go (good_after h.reading.kind w) refl (bad_among_lem ws (kept_word w (word_kind w) h) s)
  where
    go :
        (b : Bool) →
        good_after h.reading.kind w ≡ b →
        (read_words ws (kept_word w (word_kind w) h)).reading.bad ≡ bad_among (word_kind w) ws →
        (read_words ws (read_word w h)).reading.bad ≡ cond b (bad_among (word_kind w) ws) true
    go true e r = ap (λ (k : Held). (read_words ws k).reading.bad) (sym (read_good w h s (word_kind w) refl e)) ∙ r
    go false e r =
        ap (λ (k : Held). (read_words ws k).reading.bad) (sym (read-spoilt w h s e))
        ∙ ap (λ (k : Held). k.reading.bad) (stays ws (spoilt h) refl)

pub fed_bad : (bs ms ps : List ℕ) → (fed bs (fed_of started ms ps)).decoder.reading.bad ≡ bad_among 0 (words bs)
fed_bad bs ms ps =
    let h = held_of started.reading ms ps in
    ap (λ (k : Held). k.reading.bad) (fed-held bs h 0 0 0) ∙ bad_among_lem (words bs) h refl
