-- What a file is answered by cases: a bad file, a base rate of 0, too large a bale, and what the library says.
use Rattle.std.specs.Prelude.{ℕ, ◌≡◌, Bool, List, [], ◌∷◌, map}
use Rattle.std.proofs.Math.Path.{refl, ap}
use Rattle.std.proofs.Common.{sym, subst}
use Rattle.std.proofs.Math.Bool.{true, false}
use Rattle.std.proofs.Math.Option.{Option, none, some}
use Rattle.definition.specs.Call.{Lent, refused_at, result_of}
use Rattle.definition.specs.Settings.{Settings}
use Rattle.definition.specs.FactorGraph.{Bale}
use Rattle.definition.specs.Refusals.{Verdict, accepted, refused, too_many, lowest_place_from, lowest_place, or_refused, verdict}
use Rattle.definition.specs.BaleFile.{words, bad_word, settings_of_words, bale_of_words}
use Rattle.definition.specs.FileAnswer.{buffers, zero_base, file_verdict, file_result}

abbrev pub Refuses : Verdict → Type 0
Refuses accepted = ⊥
Refuses (refused n p) = Unit {0}

-- number 9, then 11, then 1, then v
abbrev judged : Option ℕ → Option ℕ → Bool → Verdict → Verdict
judged o z b v = or_refused 9 o (or_refused 11 z (or_refused 1 (lowest_place (b ∷ [])) v))

module _ (bs : List ℕ) where
  abbrev s : Settings
  s = settings_of_words (words bs)

  abbrev b : Bale
  b = bale_of_words (words bs)

  -- where a base rate is 0
  abbrev pub zero_at : Option ℕ
  zero_at = lowest_place (map zero_base (words bs))

  abbrev over : Bool
  over = too_many 24 24 140 b

  pub verdict_bad : (p : ℕ) → bad_word bs ≡ some p → file_verdict bs ≡ refused 9 p
  unfolding file_verdict or_refused
  verdict_bad p e = ap (λ (o : Option ℕ). judged o zero_at over (verdict s buffers b)) e

  pub verdict_small :
      bad_word bs ≡ none → zero_at ≡ none → too_many 24 24 140 (bale_of_words (words bs)) ≡ false →
      file_verdict bs ≡ verdict (settings_of_words (words bs)) buffers (bale_of_words (words bs))
  unfolding file_verdict or_refused lowest_place lowest_place_from
  verdict_small whole z e = λ i. judged (whole i) (z i) (e i) (verdict s buffers b)

  -- what is accepted was neither bad nor too large, and has no base rate of 0
  pub verdict-passed : file_verdict bs ≡ accepted → (bad_word bs ≡ none) × (zero_at ≡ none) × (too_many 24 24 140 (bale_of_words (words bs)) ≡ false)
  unfolding file_verdict or_refused lowest_place lowest_place_from
  verdict-passed h = go (bad_word bs) zero_at over h
    where
      go : (o z : Option ℕ) (c : Bool) → judged o z c (verdict s buffers b) ≡ accepted → (o ≡ none) × (z ≡ none) × (c ≡ false)
      go (some i) z c h = absurd (subst Refuses h tt)
      go none (some i) c h = absurd (subst Refuses h tt)
      go none none true h = absurd (subst Refuses h tt)
      go none none false h = (refl, refl, refl)

  pub refused_result : (n p : ℕ) → file_verdict bs ≡ refused n p → (l : Lent) → record { outcome = refused_at n p; lent = l } ≡ file_result bs l
  unfolding file_result result_of
  refused_result n p e l = ap (λ (v : Verdict). result_of v s b l) (sym e)
