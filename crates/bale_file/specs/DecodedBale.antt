-- The settings and the bale that a decoded good file stands for are the definition's.
use Rattle.std.specs.Prelude.{ℕ, ◌≤◌, ◌<◌, ◌≡◌, Float, length, take}
use Rattle.std.proofs.Math.Path.{ap}
use Rattle.std.proofs.Common.{◌∙◌}
use mathlib.Core.List.{List, map}
use Rattle.definition.specs.BaleFile.{words, bits, coded_settings, settings_of_words, base_rate, evidence_of, pair_of, bale_of_words}
use Rattle.definition.specs.Refusals.{markers_of, pairs_of, bale_of}
use Rattle.bale_file.specs.Base.{rate_of, first_rate_lem}
use Rattle.bale_file.specs.Reading.{most_words}
use Rattle.bale_file.specs.Decoder.{Fed}
use Rattle.bale_file.specs.Decoded.{Decoded, all_markers, all-pairs}

module _ (bs ms ps : List ℕ) (f : Fed) (d : Decoded bs ms ps f) where
  pub decoded-settings : coded_settings f.decoder.reading.rates f.decoder.reading.prior ≡ settings_of_words (words bs)
  unfolding settings_of_words
  decoded-settings = λ i. coded_settings (d.rates i) (d.prior i)

  pub decoded_rate : rate_of f.decoder.reading.base ≡ base_rate (words bs)
  decoded_rate = ap rate_of d.base ∙ first_rate_lem (words bs)

  pub decoded-bale :
      (es : List Float) (qs : List ℕ) →
      f.decoder.reading.markers < most_words →
      f.decoder.reading.markers ≤ length ms →
      f.decoder.reading.pairs < most_words →
      f.decoder.reading.pairs ≤ length ps →
      markers_of es ≡ map (evidence_of (rate_of f.decoder.reading.base)) (take f.decoder.reading.markers f.markers) →
      pairs_of qs ≡ map pair_of (take f.decoder.reading.pairs f.pairs) →
      bale_of (bits 11 0 f.decoder.reading.grades) es qs ≡ bale_of_words (words bs)
  unfolding bale_of bale_of_words
  decoded-bale es qs a b c e m p =
      λ i.
      record {
        grades = bits 11 0 (d.grades i);
        markers = (m ∙ (λ j. map (evidence_of (decoded_rate j)) (all_markers bs ms ps f d a b j))) i;
        pairs = (p ∙ ap (map pair_of) (all-pairs bs ms ps f d c e)) i;
      }
