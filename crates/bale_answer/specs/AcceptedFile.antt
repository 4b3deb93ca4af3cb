-- An accepted file, as the decoder has counted it.
use Rattle.std.specs.Prelude.{ℕ, ◌≤◌, ◌≡◌, List, length}
use Rattle.std.proofs.Common.{arith, sym, ap, ◌∙◌, subst}
use Rattle.std.proofs.lemmas.List.{length-map}
use Rattle.definition.specs.Refusals.{accepted, verdict}
use Rattle.definition.specs.BaleFile.{words, bits, words_of_kind, base_rate, evidence_of, pair_of, settings_of_words, bale_of_words}
use Rattle.definition.specs.FileAnswer.{buffers, file_verdict}
use Rattle.bale_file.specs.declared.decoder.Decoder.{Decoder}
use Rattle.bale_answer.specs.Taken.{Taken}
use Rattle.bale_answer.specs.Cases.{verdict_small, verdict-passed}
use Rattle.bale_answer.specs.Good.{decoded, over-is, counts-within}

pub record AcceptedFile (bs : List ℕ) (d : Decoder) : Type 0 where
  pub accepts : verdict (settings_of_words (words bs)) buffers (bale_of_words (words bs)) ≡ accepted
  pub grades_are : bits 11 0 d.reading.grades ≡ (bale_of_words (words bs)).grades
  pub markers_are : d.reading.markers ≡ length (bale_of_words (words bs)).markers
  pub pairs_are : d.reading.pairs ≡ length (bale_of_words (words bs)).pairs
  pub grades-within : (bale_of_words (words bs)).grades ≤ 24
  pub markers_within : length (bale_of_words (words bs)).markers ≤ 24
  pub pairs-within : length (bale_of_words (words bs)).pairs ≤ 140

pub accepted_file : (bs : List ℕ) (d : Decoder) (ms ps : List ℕ) → Taken bs d ms ps → file_verdict bs ≡ accepted → AcceptedFile bs d
unfolding bale_of_words
accepted_file bs d ms ps t e =
    let passed = verdict-passed bs e in
    let D = decoded bs d ms ps t passed.0 in
    let c = counts-within bs d ms ps (record { taken = t; whole = passed.0; not-zero = passed.1; within = sym (over-is bs d ms ps t passed.0) ∙ passed.2 }) in
    let m = length-map (words_of_kind 4 (words bs)) (evidence_of (base_rate (words bs))) in
    let p = length-map (words_of_kind 5 (words bs)) pair_of in
    record {
      accepts = sym (verdict_small bs passed.0 passed.1 passed.2) ∙ e;
      grades_are = ap (bits 11 0) D.grades;
      markers_are = omega (arith, m, D.markers, c.1);
      pairs_are = omega (arith, p, D.pairs, c.2);
      grades-within = subst (λ (n : ℕ). bits 11 0 n ≤ 24) D.grades c.0;
      markers_within = omega (arith, m, D.markers, c.1);
      pairs-within = omega (arith, p, D.pairs, c.2);
    }
