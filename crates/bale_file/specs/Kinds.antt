-- What a good file leaves of each kind: its words, one after the other.
use Rattle.std.specs.Prelude.{ℕ, suc, ◌≤◌, ◌≡◌, Bool, true, false, cond, eqb, length, get_or}
use Rattle.std.proofs.Common.{arith, sym, ◌∙◌}
use Rattle.std.proofs.Math.Path.{refl, ap}
use Rattle.std.proofs.Math.Option.{none, some}
use mathlib.Core.List.{List, [], ◌∷◌}
use Rattle.definition.specs.Lists.{cons_if}
use Rattle.definition.specs.BaleFile.{word_kind, bad_word_from, words_of_kind}
use Rattle.bale_file.specs.Reading.{Held, good_after, kept_word, read_words}
use Rattle.bale_file.specs.ReadingSteps.{read_good}
use Rattle.bale_file.specs.Places.{from_good, from-spoilt}
use Rattle.bale_file.specs.Onto.{put_each}

some-none : (p : ℕ) → some p ≡ none → ⊥
some-none p e = let z : ◌≡◌ {A = ℕ} 0 1 = cc in omega arith

-- a good file's first word is good, and so are the words after it
module _ (left : Bool) (i j w : ℕ) (ws : List ℕ) (whole : bad_word_from left i j (w ∷ ws) ≡ none) where
  decide : (b : Bool) → good_after j w ≡ b → good_after j w ≡ true
  decide true e = e
  decide false e = absurd (some-none i (sym (from-spoilt left i j w ws e) ∙ whole))

  whole_head : good_after j w ≡ true
  whole_head = decide (good_after j w) refl

  whole_tail : bad_word_from left (suc i) (word_kind w) ws ≡ none
  whole_tail = sym (from_good left i j w ws whole_head) ∙ whole

-- ---- the words of one kind

-- a view of what is held that only a word of kind k changes has all of them, one after the other
module _
    {A : Type 0} (k : ℕ) (put : ℕ → A → A) (view : Held → A)
    (kept : (w n : ℕ) (h : Held) → view (kept_word w n h) ≡ cond (eqb n k) (put w (view h)) (view h)) where
  put-kind : (b : Bool) (w : ℕ) (ws : List ℕ) (a : A) → put_each put ws (cond b (put w a) a) ≡ put_each put (cons_if b w ws) a
  put-kind true w ws a = refl
  put-kind false w ws a = refl

  pub every :
      (left : Bool) (i : ℕ) (ws : List ℕ) (h : Held) →
      h.reading.bad ≡ false →
      bad_word_from left i h.reading.kind ws ≡ none →
      view (read_words ws h) ≡ put_each put (words_of_kind k ws) (view h)
  unfolding read_words words_of_kind kept_word
  every left i [] h s e = refl
  every left i (w ∷ ws) h s e =
      let good = whole_head left i h.reading.kind w ws e in
      ap (λ (g : Held). view (read_words ws g)) (sym (read_good w h s (word_kind w) refl good))
      ∙ every left (suc i) ws (kept_word w (word_kind w) h) s (whole_tail left i h.reading.kind w ws e)
      ∙ ap (put_each put (words_of_kind k ws)) (kept w (word_kind w) h)
      ∙ put-kind (eqb (word_kind w) k) w (words_of_kind k ws) (view h)

-- where there is one at the most, the last is the first
pub only_one : (ws : List ℕ) (a : ℕ) → length ws ≤ 1 → put_each (λ w b. w) ws a ≡ get_or ws 0 a
only_one [] a l = refl
only_one (w ∷ []) a l = refl
only_one (w ∷ v ∷ ws) a l = absurd (let z : ⊥ = omega arith in z)
