-- The noisy-OR table in a row of floats: absent, present, row by row.
use Rattle.std.specs.Prelude.{◌≡◌, refl, Bool, true, false, cond, List, [], ◌∷◌, map, ℕ, suc, max, ◌+◌, ◌*◌, ◌<◌, length, get_or, Float}
use Rattle.std.proofs.Common.{sym, ap, ◌∙◌, arith}
use Rattle.std.proofs.lemmas.Simd.{map-map}
use Rattle.std.proofs.lemmas.List.{length-map}
use Rattle.std.specs.Float.{nan}
use Rattle.definition.specs.Floats.{◌⊕◌, ◌⊖◌, ◌⊗◌, ◌⊘◌, zeroᶠ, oneᶠ, avoid_underflow, of_nat, powi}
use Rattle.definition.specs.Vectors.{sum_of, avoid_underflow_all}
use Rattle.definition.specs.Lists.{range}
use Rattle.definition.specs.Settings.{Settings}
use Rattle.definition.specs.NoisyOr.{CpdRow, cpd_absent, cpd_absent_regularised, cpd_row, cpd_rows, cpd_table}
use Rattle.array_utils.specs.Counts.{count_at, length_count}
use Rattle.array_utils.specs.Columns.{absent, present, column, column-at}

-- the rows one after the other
abbrev pub flat_rows : List CpdRow → List Float
flat_rows [] = []
flat_rows (r ∷ rs) = r.absent ∷ r.present ∷ flat_rows rs

-- the settings that a table goes by
abbrev pub given : Float → Float → Bool → Settings
given alpha beta regularised = record { alpha = alpha; beta = beta; prior = zeroᶠ; regularised = regularised; tolerance = zeroᶠ; loop_limit = 0 }

-- any settings with these have this table
pub table_given : (s : Settings) (d : ℕ) → cpd_table s d ≡ cpd_table (given s.alpha s.beta s.regularised) d
unfolding cpd_table cpd_rows cpd_absent cpd_absent_regularised
table_given s d = refl

-- the absent entry of a row
abbrev pub absent_at : Settings → ℕ → Float
absent_at s i = cond s.regularised (cpd_absent_regularised s i) (cpd_absent s i)

-- ... by its power of 1 - alpha: cpd_0, and from that cpd_regularized_0
abbrev pub regularised_of : Float → Float → ℕ → Float
regularised_of cpd beta i = powi cpd i ⊗ (oneᶠ ⊖ beta) ⊘ of_nat (max i 1)

abbrev pub absent_of : Float → Float → Bool → ℕ → Float
absent_of power beta regularised i = let cpd = power ⊗ (oneᶠ ⊖ beta) in cond regularised (regularised_of cpd beta i) cpd

pub absent_of_lem : (alpha beta power : Float) (b : Bool) (i : ℕ) → power ≡ powi (oneᶠ ⊖ alpha) i → absent_of power beta b i ≡ absent_at (given alpha beta b) i
unfolding cpd_absent cpd_absent_regularised
absent_of_lem alpha beta power b i e = ap (λ (p : Float). absent_of p beta b i) e

rows_at : (s : Settings) (d : ℕ) → map (λ (i : ℕ). cpd_row (absent_at s i)) (range 0 d) ≡ cpd_rows s d
unfolding cpd_rows
rows_at s d = go s.regularised
  where
    go : (b : Bool) → map (λ (i : ℕ). cpd_row (cond b (cpd_absent_regularised s i) (cpd_absent s i))) (range 0 d) ≡ map (λ (i : ℕ). cpd_row (cond b (cpd_absent_regularised s) (cpd_absent s) i)) (range 0 d)
    go true = refl
    go false = refl

-- ---- what stands where

-- the rows by a function of their two entries: the first, the second, or their sum
abbrev each_row : (Float → Float → Float) → List CpdRow → List Float
each_row f rs = map (λ (r : CpdRow). f r.absent r.present) rs

columns_are : (f : Float → Float → Float) (rs : List CpdRow) → column f (flat_rows rs) ≡ each_row f rs
columns_are f [] = refl
columns_are f (r ∷ rs) = ap {B = List Float} (λ l. f r.absent r.present ∷ l) (columns_are f rs)

length-flat : (rs : List CpdRow) → length (flat_rows rs) ≡ 2 * length rs
length-flat [] = refl
length-flat (r ∷ rs) = ap (λ (k : ℕ). suc (suc k)) (length-flat rs) ∙ double (length rs)
  where
    double : (k : ℕ) → suc (suc (2 * k)) ≡ 2 * suc k
    double k = omega arith

-- each row's own sum
abbrev pub sums : List CpdRow → List Float
sums = each_row ◌⊕◌

module _ (s : Settings) (d : ℕ) where
  numbered : (f : Float → Float → Float) → map (λ (i : ℕ). f (absent_at s i) (oneᶠ ⊖ absent_at s i)) (range 0 d) ≡ each_row f (cpd_rows s d)
  numbered f = sym (map-map (λ (r : CpdRow). f r.absent r.present) (λ (i : ℕ). cpd_row (absent_at s i)) (range 0 d)) ∙ ap (each_row f) (rows_at s d)

  each_at : (f : Float → Float → Float) (i : ℕ) → i < d → get_or (each_row f (cpd_rows s d)) i nan ≡ f (absent_at s i) (oneᶠ ⊖ absent_at s i)
  each_at f i h = ap (λ (l : List Float). get_or l i nan) (sym (numbered f)) ∙ count_at (λ (k : ℕ). f (absent_at s k) (oneᶠ ⊖ absent_at s k)) nan d i h

  length_each : (f : Float → Float → Float) → length (each_row f (cpd_rows s d)) ≡ d
  length_each f = ap length (sym (numbered f)) ∙ length_count (λ (k : ℕ). f (absent_at s k) (oneᶠ ⊖ absent_at s k)) 0 d

  pub length-rows : length (flat_rows (cpd_rows s d)) ≡ 2 * d
  length-rows = length-flat (cpd_rows s d) ∙ ap (λ (k : ℕ). 2 * k) (sym (length-map (cpd_rows s d) (λ (r : CpdRow). r.absent)) ∙ length_each absent)

  pub length-sums : length (sums (cpd_rows s d)) ≡ d
  length-sums = length_each ◌⊕◌

  pub sum-at : (i : ℕ) → i < d → get_or (sums (cpd_rows s d)) i nan ≡ absent_at s i ⊕ (oneᶠ ⊖ absent_at s i)
  sum-at = each_at ◌⊕◌

  flat-at : (f : Float → Float → Float) (i : ℕ) → i < d → f (get_or (flat_rows (cpd_rows s d)) (2 * i) nan) (get_or (flat_rows (cpd_rows s d)) (2 * i + 1) nan) ≡ f (absent_at s i) (oneᶠ ⊖ absent_at s i)
  flat-at f i h =
      sym (column-at f (flat_rows (cpd_rows s d)) i (omega (arith, length-rows)))
      ∙ ap (λ (l : List Float). get_or l i nan) (columns_are f (cpd_rows s d))
      ∙ each_at f i h

  pub even_at : (i : ℕ) → i < d → get_or (flat_rows (cpd_rows s d)) (2 * i) nan ≡ absent_at s i
  even_at = flat-at absent

  pub odd-at : (i : ℕ) → i < d → get_or (flat_rows (cpd_rows s d)) (2 * i + 1) nan ≡ oneᶠ ⊖ absent_at s i
  odd-at = flat-at present

-- ---- from the rows to the table

divided : (f : Float → Float) (rs : List CpdRow) → map f (flat_rows rs) ≡ flat_rows (map {B = CpdRow} (λ (r : CpdRow). record { absent = f r.absent; present = f r.present }) rs)
divided f [] = refl
divided f (r ∷ rs) = ap {B = List Float} (λ l. f r.absent ∷ f r.present ∷ l) (divided f rs)

abbrev pub row_total : Settings → ℕ → Float
row_total s d = sum_of (sums (cpd_rows s d))

pub table_plain : (s : Settings) (d : ℕ) → s.regularised ≡ false → map (λ (x : Float). x ⊘ row_total s d) (flat_rows (cpd_rows s d)) ≡ flat_rows (cpd_table s d)
unfolding cpd_table
table_plain s d e = divided (λ (x : Float). x ⊘ row_total s d) (cpd_rows s d) ∙ go s.regularised e
  where
    go : (b : Bool) → b ≡ false → flat_rows (map {B = CpdRow} (λ (r : CpdRow). record { absent = r.absent ⊘ row_total s d; present = r.present ⊘ row_total s d }) (cpd_rows s d)) ≡ flat_rows (map {B = CpdRow} (λ (r : CpdRow). record { absent = cond b avoid_underflow (λ x. x) (r.absent ⊘ row_total s d); present = cond b avoid_underflow (λ x. x) (r.present ⊘ row_total s d) }) (cpd_rows s d))
    go b e = rw e

pub table_raised : (s : Settings) (d : ℕ) → s.regularised ≡ true → avoid_underflow_all (map (λ (x : Float). x ⊘ row_total s d) (flat_rows (cpd_rows s d))) ≡ flat_rows (cpd_table s d)
unfolding cpd_table avoid_underflow_all
table_raised s d e =
    ap (map avoid_underflow) (divided (λ (x : Float). x ⊘ row_total s d) (cpd_rows s d))
    ∙ divided avoid_underflow (map {B = CpdRow} (λ (r : CpdRow). record { absent = r.absent ⊘ row_total s d; present = r.present ⊘ row_total s d }) (cpd_rows s d))
    ∙ ap flat_rows (twice (cpd_rows s d))
    ∙ go s.regularised e
  where
    twice : (rs : List CpdRow) → map {B = CpdRow} (λ (r : CpdRow). record { absent = avoid_underflow r.absent; present = avoid_underflow r.present }) (map {B = CpdRow} (λ (r : CpdRow). record { absent = r.absent ⊘ row_total s d; present = r.present ⊘ row_total s d }) rs) ≡ map {B = CpdRow} (λ (r : CpdRow). record { absent = avoid_underflow (r.absent ⊘ row_total s d); present = avoid_underflow (r.present ⊘ row_total s d) }) rs
    twice [] = refl
    twice (r ∷ rs) = ap {B = List CpdRow} (λ l. record { absent = avoid_underflow (r.absent ⊘ row_total s d); present = avoid_underflow (r.present ⊘ row_total s d) } ∷ l) (twice rs)

    go : (b : Bool) → b ≡ true → flat_rows (map {B = CpdRow} (λ (r : CpdRow). record { absent = avoid_underflow (r.absent ⊘ row_total s d); present = avoid_underflow (r.present ⊘ row_total s d) }) (cpd_rows s d)) ≡ flat_rows (map {B = CpdRow} (λ (r : CpdRow). record { absent = cond b avoid_underflow (λ x. x) (r.absent ⊘ row_total s d); present = cond b avoid_underflow (λ x. x) (r.present ⊘ row_total s d) }) (cpd_rows s d))
    go b e = rw e
