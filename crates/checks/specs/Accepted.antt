-- What a caller knows of the lent slices once the answer is Accepted.
use Rattle.std.specs.Prelude.{ℕ, ◌+◌, ◌*◌, ◌/◌, ◌≤◌, ◌<◌, ◌≡◌, List, Float, get_or}
use Rattle.std.proofs.Common.{arith, ◌∙◌}
use Rattle.std.proofs.Math.Path.{subst}
use Rattle.std.proofs.Math.ListN.{length}
use Rattle.definition.specs.Settings.{Settings}
use Rattle.definition.specs.FactorGraph.{Pair, marker_numbers, grades_of}
use Rattle.definition.specs.Refusals.{Buffers, pairs_of, markers_of, bale_of, accepted, verdict}
use Rattle.graph_laws.specs.AloneChecks.{All-getD}
use Rattle.graph_laws.specs.Accepted.{Passes, passes_all, sized, valid, uncrowded}
use Rattle.graph_laws.specs.Lists.{length_count}
use Rattle.checks.specs.Searching.{get_d_range}
use Rattle.checks.specs.Slices.{no_pair, length_markers, length_pairs, get_d_pairs, counts}

-- the counts and the pairs of an accepted call with g grades, the evidence es and the pairs ps
pub record Checked (g : ℕ) (es : List Float) (ps : List ℕ) : Type 0 where
  pub grades : g ≤ 1024
  pub markers : length es / 2 ≤ 1024
  pub pairs : length ps / 2 ≤ 8192
  pub known : (i : ℕ) → i < length ps / 2 → (get_or ps (2 * i) 0 < g) × (get_or ps (2 * i + 1) 0 < length es / 2)
  pub few : (m : ℕ) → m < length es / 2 → length (grades_of (pairs_of ps) m) ≤ 128

module _ (s : Settings) (f : Buffers) (g : ℕ) (es : List Float) (ps : List ℕ) (h : verdict s f (bale_of g es ps) ≡ accepted) where
  abbrev all : Passes s f (bale_of g es ps)
  all = passes_all s f (bale_of g es ps) h

  known_at : (i : ℕ) → i < length ps / 2 → (get_or ps (2 * i) 0 < g) × (get_or ps (2 * i + 1) 0 < length es / 2)
  unfolding bale_of
  known_at i l =
      subst (λ (q : Pair). (q.grade < g) × (q.marker < length es / 2)) (get_d_pairs ps i no_pair l)
      (subst (λ (n : ℕ). ((get_or (pairs_of ps) i no_pair).grade < g) × ((get_or (pairs_of ps) i no_pair).marker < n)) (length_markers es)
      (All-getD (λ q. (q.grade < g) × (q.marker < length (markers_of es))) (pairs_of ps) (valid (bale_of g es ps) all.known) no_pair i (omega (arith, length_pairs ps))))

  few_at : (m : ℕ) → m < length es / 2 → length (grades_of (pairs_of ps) m) ≤ 128
  unfolding bale_of
  few_at m l =
      let k : m < length (markers_of es) = omega (arith, length_markers es) in
      subst (λ (n : ℕ). length (grades_of (pairs_of ps) n) ≤ 128) (get_d_range 0 (length (markers_of es)) m 0 k ∙ omega arith)
      (All-getD (λ n. length (grades_of (pairs_of ps) n) ≤ 128) (marker_numbers (bale_of g es ps)) (uncrowded (bale_of g es ps) all.few) 0 m (omega (arith, length_count 0 (length (markers_of es)))))

  pub accepted_checked : Checked g es ps
  accepted_checked =
      let n = counts g es ps (sized (bale_of g es ps) all.sizes.0) in
      record { grades = n.0; markers = n.1; pairs = n.2; known = known_at; few = few_at }
