-- What the tests of the definition say at a place, in terms of the lent slices.
use Rattle.std.specs.Prelude.{ℕ, ◌+◌, ◌*◌, ◌/◌, ◌<◌, ◌≡◌, false, ◌||◌, List, map, Float, length, get_or}
use Rattle.std.proofs.Common.{sym, subst, ◌∙◌}
use Rattle.std.proofs.Math.Path.{ap}
use Rattle.std.proofs.Math.Dec.{leb}
use Rattle.std.specs.Float.{nan}
use Rattle.std.proofs.lemmas.List.{length-map}
use Rattle.definition.specs.Floats.{oneᶠ}
use Rattle.definition.specs.FactorGraph.{no_evidence}
use Rattle.definition.specs.Refusals.{markers_of, pairs_of, bale_of, outside, least_evidence, bad_evidence, unknown_pair}
use Rattle.checks.specs.Searching.{get_d_map}
use Rattle.checks.specs.Slices.{no_pair, length_markers, length_pairs, get_d_markers, get_d_pairs}

pub evidence_count : (es : List Float) → length (map bad_evidence (markers_of es)) ≡ length es / 2
evidence_count es = length-map (markers_of es) bad_evidence ∙ length_markers es

pub evidence-test :
    (es : List Float) (m : ℕ) →
    m < length es / 2 →
    get_or (map bad_evidence (markers_of es)) m false ≡ (outside least_evidence oneᶠ (get_or es (2 * m) nan) || outside least_evidence oneᶠ (get_or es (2 * m + 1) nan))
unfolding bad_evidence
evidence-test es m l =
    get_d_map bad_evidence (markers_of es) m no_evidence (subst (λ (n : ℕ). m < n) (sym (length_markers es)) l)
    ∙ ap bad_evidence (get_d_markers es m no_evidence l)

module _ (g : ℕ) (es : List Float) (ps : List ℕ) where
  pub known_count : length (map (unknown_pair (bale_of g es ps)) (pairs_of ps)) ≡ length ps / 2
  known_count = length-map (pairs_of ps) (unknown_pair (bale_of g es ps)) ∙ length_pairs ps

  pub known-test :
      (i : ℕ) →
      i < length ps / 2 →
      get_or (map (unknown_pair (bale_of g es ps)) (pairs_of ps)) i false ≡ (leb g (get_or ps (2 * i) 0) || leb (length es / 2) (get_or ps (2 * i + 1) 0))
  unfolding unknown_pair bale_of
  known-test i l =
      get_d_map (unknown_pair (bale_of g es ps)) (pairs_of ps) i no_pair (subst (λ (n : ℕ). i < n) (sym (length_pairs ps)) l)
      ∙ ap (unknown_pair (bale_of g es ps)) (get_d_pairs ps i no_pair l)
      ∙ ap (λ (n : ℕ). leb g (get_or ps (2 * i) 0) || leb n (get_or ps (2 * i + 1) 0)) (length_markers es)
