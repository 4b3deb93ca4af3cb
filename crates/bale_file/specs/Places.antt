-- The place of the first bad word, as the reading has it once the words have run out.
use Prim.Native.Nat.{ℕ, suc, ◌+◌, ◌≤◌, min}
use Rattle.std.proofs.Common.{arith, sym, ap, ◌∙◌}
use Rattle.std.specs.Prelude.{◌≡◌, Bool, true, false, length}
use Rattle.std.proofs.Math.Path.{refl}
use Rattle.std.proofs.Math.Option.{some}
use mathlib.Core.List.{List, [], ◌∷◌}
use Rattle.definition.specs.BaleFile.{word_kind, bad_word_from}
use Rattle.bale_file.specs.Reading.{Held, last_place, good_after, spoilt, kept_word, read_word, read_words}
use Rattle.bale_file.specs.ReadingSteps.{read-spoilt, read_good, stays}
use Rattle.bale_file.specs.Decoder.{end_of}

next_place : (n : ℕ) → n + 1 ≤ last_place → min (n + 1) last_place ≡ suc n
next_place n l = omega arith

module _ (left : Bool) where
  pub from_good : (i j w : ℕ) (ws : List ℕ) → good_after j w ≡ true → bad_word_from left i j (w ∷ ws) ≡ bad_word_from left (suc i) (word_kind w) ws
  unfolding bad_word_from
  from_good i j w ws e = rw e

  pub from-spoilt : (i j w : ℕ) (ws : List ℕ) → good_after j w ≡ false → bad_word_from left i j (w ∷ ws) ≡ some i
  unfolding bad_word_from
  from-spoilt i j w ws e = rw e

  spoilt-end : (h : Held) → end_of left (spoilt h).reading ≡ some h.reading.place
  unfolding spoilt end_of
  spoilt-end h = refl

  pub bad_place :
      (ws : List ℕ) (h : Held) →
      h.reading.bad ≡ false →
      h.reading.place + length ws ≤ last_place →
      end_of left (read_words ws h).reading ≡ bad_word_from left h.reading.place h.reading.kind ws
  unfolding end_of bad_word_from read_words kept_word spoilt
  bad_place [] h s l = rw s
  bad_place (w ∷ ws) h s l = go (good_after h.reading.kind w) refl (bad_place ws (kept_word w (word_kind w) h) s)
    where
      p : ℕ
      p = h.reading.place

      go :
          (b : Bool) →
          good_after h.reading.kind w ≡ b →
          (min (p + 1) last_place + length ws ≤ last_place → end_of left (read_words ws (kept_word w (word_kind w) h)).reading ≡ bad_word_from left (min (p + 1) last_place) (word_kind w) ws) →
          end_of left (read_words ws (read_word w h)).reading ≡ bad_word_from left p h.reading.kind (w ∷ ws)
      go true e r =
          ap (λ (k : Held). end_of left (read_words ws k).reading) (sym (read_good w h s (word_kind w) refl e))
          ∙ r (omega (arith, next_place p (omega arith)))
          ∙ ap (λ (n : ℕ). bad_word_from left n (word_kind w) ws) (next_place p (omega arith))
          ∙ sym (from_good p h.reading.kind w ws e)
      go false e r =
          ap (λ (k : Held). end_of left (read_words ws k).reading) (sym (read-spoilt w h s e))
          ∙ ap (λ (k : Held). end_of left k.reading) (stays ws (spoilt h) refl)
          ∙ spoilt-end h
          ∙ sym (from-spoilt p h.reading.kind w ws e)
