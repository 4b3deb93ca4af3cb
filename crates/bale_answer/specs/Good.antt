-- A good file, as the decoder has it: whether its base rate is 0, whether it is too large, and the bale and the settings that it stands for.
use Rattle.std.specs.Prelude.{ℕ, ◌≤◌, ◌<◌, min, ◌≡◌, refl, Bool, true, false, ◌||◌, List, [], ◌∷◌, map, Float, length, take}
use Rattle.std.proofs.Common.{arith, sym, ◌∙◌, subst, ltb-true, lt-ltb, lit≤}
use Rattle.std.proofs.Math.Path.{ap}
use Rattle.std.proofs.Math.Option.{none}
use Rattle.std.proofs.Math.Dec.{ltb}
use Rattle.std.proofs.lemmas.List.{length-map}
use Rattle.definition.specs.Call.{Lent, sizes_of, result_of, call}
use Rattle.definition.specs.Refusals.{markers_of, pairs_of, too_many, lowest_place, lowest_place_from, accepted, refused, Verdict, verdict}
use Rattle.definition.specs.BaleFile.{words, bad_word, bits, words_of_kind, base_rate, evidence_of, pair_of, settings_of_words, bale_of_words, coded_settings}
use Rattle.definition.specs.FileAnswer.{buffers, file_verdict, file_result}
use Rattle.graph_laws.specs.Bools.{bool_iff, or_no, no_ltb}
use Rattle.base_rate_laws.specs.Kinds.{zero_place, zero-base-at}
use Rattle.bale_file.specs.declared.decoder.Decoder.{Decoder}
use Rattle.bale_file.specs.Base.{rate_of}
use Rattle.bale_file.specs.Reading.{most_words}
use Rattle.bale_file.specs.Decoder.{fed_of}
use Rattle.bale_file.specs.Decoded.{Decoded, decoded_good}
use Rattle.bale_file.specs.DecodedBale.{decoded-settings, decoded-bale}
use Rattle.checks.specs.Verdicts.{passed, failed, skip}
use Rattle.bale_answer.specs.Taken.{Taken, taken_bad}
use Rattle.bale_answer.specs.Checks.{over_counts, file_check, base_check, size_check}
use Rattle.bale_answer.specs.Cases.{zero_at, verdict_small}

-- a good file that is not over these, with no base rate of 0
pub record Small (bs : List ℕ) (d : Decoder) (ms ps : List ℕ) : Type 0 where
  pub taken : Taken bs d ms ps
  pub whole : bad_word bs ≡ none
  pub not-zero : zero_at bs ≡ none
  pub within : over_counts d ≡ false

pub record SomeSmall (d : Decoder) (ms ps : List ℕ) : Type 0 where
  pub bytes : List ℕ
  pub small : Small bytes d ms ps

-- a count that stops at the largest number of its type is as good as the count
stopped : (a most n : ℕ) → a < most → ltb a n ≡ ltb a (min most n)
stopped a most n h = bool_iff (ltb a n) (ltb a (min most n)) (λ e. lt-ltb a (min most n) (omega (arith, ltb-true a n e))) (λ e. lt-ltb a n (omega (arith, ltb-true a (min most n) e)))

module _ (bs : List ℕ) (d : Decoder) (ms ps : List ℕ) (t : Taken bs d ms ps) (whole : bad_word bs ≡ none) where
  pub decoded : Decoded bs t.markers_before t.pairs_before (fed_of d ms ps)
  decoded = subst (Decoded bs t.markers_before t.pairs_before) (sym t.is-fed) (decoded_good bs t.markers_before t.pairs_before whole)

  pub zero_is : zero_at bs ≡ zero_place d.reading.base
  zero_is = zero-base-at bs whole ∙ ap zero_place (sym decoded.base)

  pub over-is : too_many 24 24 140 (bale_of_words (words bs)) ≡ over_counts d
  unfolding too_many bale_of_words
  over-is =
      let m = ap (ltb 24) (length-map (words_of_kind 4 (words bs)) (evidence_of (base_rate (words bs)))) ∙ stopped 24 most_words (length (words_of_kind 4 (words bs))) (lit≤ tt) ∙ ap (ltb 24) (sym decoded.markers) in
      let p = ap (ltb 140) (length-map (words_of_kind 5 (words bs)) pair_of) ∙ stopped 140 most_words (length (words_of_kind 5 (words bs))) (lit≤ tt) ∙ ap (ltb 140) (sym decoded.pairs) in
      λ i. ltb 24 (bits 11 0 (sym decoded.grades i)) || m i || p i

-- ---- what the three checks say of the file, one after the other

over_none : (b : Bool) → lowest_place (b ∷ []) ≡ none → b ≡ false
unfolding lowest_place lowest_place_from
over_none true e = cc
over_none false e = refl

module _ (bs : List ℕ) (d : Decoder) (ms ps : List ℕ) (t : Taken bs d ms ps) where
  pub refused_file : (n p : ℕ) → refused n p ≡ file_check d → file_verdict bs ≡ refused n p
  unfolding file_verdict
  refused_file n p h = sym (failed 9 n p _ _ _ h (taken_bad bs d ms ps t))

  module _ (file : accepted ≡ file_check d) where
    whole : bad_word bs ≡ none
    whole = passed 9 _ _ file (taken_bad bs d ms ps t)

    pub refused_base : (n p : ℕ) → refused n p ≡ base_check d → file_verdict bs ≡ refused n p
    unfolding file_verdict
    refused_base n p h = skip 9 _ _ whole ∙ sym (failed 11 n p _ _ _ h (sym (zero_is bs d ms ps t whole)))

    module _ (base : accepted ≡ base_check d) where
      not-zero : zero_at bs ≡ none
      not-zero = passed 11 _ _ base (sym (zero_is bs d ms ps t whole))

      over_place : lowest_place (over_counts d ∷ []) ≡ lowest_place (too_many 24 24 140 (bale_of_words (words bs)) ∷ [])
      over_place = ap (λ (b : Bool). lowest_place (b ∷ [])) (sym (over-is bs d ms ps t whole))

      pub refused_size : (n p : ℕ) → refused n p ≡ size_check d → file_verdict bs ≡ refused n p
      unfolding file_verdict
      refused_size n p h = skip 9 _ _ whole ∙ skip 11 _ _ not-zero ∙ sym (failed 1 n p _ _ _ h over_place)

      pub small_file : accepted ≡ size_check d → Small bs d ms ps
      small_file size = record { taken = t; whole = whole; not-zero = not-zero; within = over_none _ (passed 1 _ _ size refl) }

module _ (bs : List ℕ) (d : Decoder) (ms ps : List ℕ) (h : Small bs d ms ps) where
  pub counts-within : (bits 11 0 d.reading.grades ≤ 24) × (d.reading.markers ≤ 24) × (d.reading.pairs ≤ 140)
  counts-within =
      let x = or_no _ _ h.within in
      let y = or_no _ _ x.0 in
      (no_ltb _ _ y.0, no_ltb _ _ y.1, no_ltb _ _ x.1)

  -- where the words of the markers and the pairs stand in two slices as floats and numbers, a call with these is the file's
  pub small_result :
      (es : List Float) (qs : List ℕ) (l : Lent) → sizes_of l ≡ buffers →
      markers_of es ≡ map (evidence_of (rate_of d.reading.base)) (take d.reading.markers ms) →
      pairs_of qs ≡ map pair_of (take d.reading.pairs ps) →
      call (coded_settings d.reading.rates d.reading.prior) (bits 11 0 d.reading.grades) es qs l ≡ file_result bs l
  unfolding call file_result
  small_result es qs l z m p =
      let t = h.taken in
      let c = counts-within in
      let D = decoded bs d ms ps t h.whole in
      let f = fed_of d ms ps in
      let e = decoded-settings bs t.markers_before t.pairs_before f D in
      let g = decoded-bale bs t.markers_before t.pairs_before f D es qs
      (omega (arith, c.1)) (omega (arith, c.1, t.markers_before_length)) (omega (arith, c.2)) (omega (arith, c.2, t.pairs_before_length)) m p in
      (λ i. result_of (verdict (e i) (z i) (g i)) (e i) (g i) l)
      ∙ ap (λ (v : Verdict). result_of v (settings_of_words (words bs)) (bale_of_words (words bs)) l)
      (sym (verdict_small bs h.whole h.not-zero (over-is bs d ms ps t h.whole ∙ h.within)))
