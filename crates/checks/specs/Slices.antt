-- The markers and the pairs as they lie in the lent slices, two entries to each.
use Rattle.std.specs.Prelude.{ℕ, zero, suc, ◌+◌, ◌*◌, ◌/◌, ◌≤◌, ◌<◌, ◌≡◌, refl, List, Float, length, get_or, replicate}
use Rattle.std.proofs.Common.{subst}
use Rattle.std.specs.Float.{nan}
use Rattle.definition.specs.FactorGraph.{Evidence, Pair}
use Rattle.definition.specs.Refusals.{markers_of, pairs_of, bale_of}
use Rattle.graph_laws.specs.Twos.{length-twos, twos-at}
use Rattle.graph_laws.specs.Accepted.{Sized}

abbrev pub evidence_at : List Float → ℕ → Evidence
evidence_at es m = record { absent = get_or es (2 * m) nan; present = get_or es (2 * m + 1) nan }

abbrev pub pair_at : List ℕ → ℕ → Pair
pair_at ps i = record { grade = get_or ps (2 * i) 0; marker = get_or ps (2 * i + 1) 0 }

-- stands for a pair that is not there
abbrev pub no_pair : Pair
no_pair = record { grade = 0; marker = 0 }

pub length_markers : (es : List Float) → length (markers_of es) ≡ length es / 2
unfolding markers_of
length_markers = length-twos _

pub length_pairs : (ps : List ℕ) → length (pairs_of ps) ≡ length ps / 2
unfolding pairs_of
length_pairs = length-twos _

pub get_d_markers : (es : List Float) (m : ℕ) (d : Evidence) → m < length es / 2 → get_or (markers_of es) m d ≡ evidence_at es m
unfolding markers_of
get_d_markers es m d = twos-at _ es m nan d

pub get_d_pairs : (ps : List ℕ) (i : ℕ) (d : Pair) → i < length ps / 2 → get_or (pairs_of ps) i d ≡ pair_at ps i
unfolding pairs_of
get_d_pairs ps i d = twos-at _ ps i 0 d

-- what the counts of a bale within the limits are in the slices
pub counts : (g : ℕ) (es : List Float) (ps : List ℕ) → Sized (bale_of g es ps) → (g ≤ 1024) × (length es / 2 ≤ 1024) × (length ps / 2 ≤ 8192)
unfolding bale_of
counts g es ps s = (s.grades, subst (λ (n : ℕ). n ≤ 1024) (length_markers es) s.markers, subst (λ (n : ℕ). n ≤ 8192) (length_pairs ps) s.pairs)

-- a new array holds zeros
pub zeros : (n i : ℕ) → ◌≡◌ {A = ℕ} (get_or (replicate n 0) i 0) 0
zeros zero i = refl
zeros (suc n) zero = refl
zeros (suc n) (suc i) = zeros n i
