-- The noisy-OR table of a factor: the conditional probabilities of its marker, by how many of its grades are present
-- (`fill_in_factor` of src/node.rs; document 01, 'src/node.rs').
use Rattle.std.specs.Prelude.{ℕ, max, cond, List, map, Float}
use Rattle.definition.specs.Settings.{Settings}
use Rattle.definition.specs.Floats.{◌⊕◌, ◌⊖◌, ◌⊗◌, ◌⊘◌, oneᶠ, avoid_underflow, of_nat, powi}
use Rattle.definition.specs.Vectors.{sum_of}
use Rattle.definition.specs.Lists.{range}

-- A row: the marker's absence and its presence, given how many of its grades are present.
pub record CpdRow : Type 0 where
  pub absent : Float
  pub present : Float

-- cpd_0 of row i: (1 - alpha) ^ i * (1 - beta)
unfoldable pub cpd_absent : Settings → ℕ → Float
cpd_absent s i = powi (oneᶠ ⊖ s.alpha) i ⊗ (oneᶠ ⊖ s.beta)

-- cpd_regularized_0: cpd_0 ^ i * (1 - beta) / max(i, 1)
unfoldable pub cpd_absent_regularised : Settings → ℕ → Float
cpd_absent_regularised s i = powi (cpd_absent s i) i ⊗ (oneᶠ ⊖ s.beta) ⊘ of_nat (max i 1)

abbrev pub cpd_row : Float → CpdRow
cpd_row x = record { absent = x; present = oneᶠ ⊖ x }

unfoldable pub cpd_rows : Settings → ℕ → List CpdRow
cpd_rows s d = let m : ℕ → Float = cond s.regularised (cpd_absent_regularised s) (cpd_absent s) in map (λ (i : ℕ). cpd_row (m i)) (range 0 d)

-- The rows 0 to d - 1, divided by the sum over the rows of each row's own sum (`normalize_cpd`); the regularised ones have c for what is below it.
unfoldable pub cpd_table : Settings → ℕ → List CpdRow
cpd_table s d =
    let rs = cpd_rows s d in
    let t = sum_of (map (λ (r : CpdRow). r.absent ⊕ r.present) rs) in
    let floor : Float → Float = cond s.regularised avoid_underflow (λ x. x) in
    map (λ (r : CpdRow). record { absent = floor (r.absent ⊘ t); present = floor (r.present ⊘ t) }) rs
