-- The report: where each number stands, and that the three of a grade add up.
use Rattle.std.specs.Prelude.{ℕ, zero, suc, ◌+◌, ◌*◌, ◌<◌, ◌≡◌, refl, Bool, true, false, not, List, [], ◌∷◌, ◌++◌, map, Float, length, get_or}
use Rattle.std.proofs.Common.{arith, ap, ◌∙◌, subst}
use Rattle.std.proofs.Math.Option.{Option, none, some}
use Rattle.definition.specs.Lists.{range, cons_if, filter, concat, how_many, patterns}
use Rattle.definition.specs.Settings.{Settings}
use Rattle.definition.specs.FactorGraph.{Bale}
use Rattle.definition.specs.Reads.{above_half, present_under, is_above, is_not_above, is_missing}
use Rattle.definition.specs.Patterns.{pattern_count, pattern_counts}
use Rattle.claims.specs.AllPatterns.{GradeCounted, PatternsCounted}
use Rattle.graph_laws.specs.Patterns.{length-patterns}

-- ---- three numbers a grade

-- the three numbers of row g
pub record RowIs (l : List ℕ) (g x y z : ℕ) : Type 0 where
  pub first : get_or l (3 * g) 0 ≡ x
  pub second : get_or l (3 * g + 1) 0 ≡ y
  pub third : get_or l (3 * g + 2) 0 ≡ z

-- a row for each number from i on
module _ (a n u : ℕ → ℕ) where
  abbrev pub row_of : ℕ → List ℕ
  row_of g = a g ∷ n g ∷ u g ∷ []

  abbrev pub rows_from : ℕ → ℕ → List ℕ
  rows_from i k = concat (map row_of (range i k))

  pub rows_long : (i k : ℕ) → length (rows_from i k) ≡ 3 * k
  rows_long i zero = refl
  rows_long i (suc k) = omega (arith, rows_long (suc i) k)

  rows-from : (i k g : ℕ) → g < k → RowIs (rows_from i k) g (a (i + g)) (n (i + g)) (u (i + g))
  rows-from i zero g h = absurd (let z : ⊥ = omega arith in z)
  rows-from i (suc k) zero h = let e : i ≡ i + 0 = omega arith in record { first = ap a e; second = ap n e; third = ap u e }
  rows-from i (suc k) (suc g) h =
      let r = rows-from (suc i) k g (omega arith) in
      let e : suc i + g ≡ i + suc g = omega arith in
      let x : 3 * suc g ≡ suc (suc (suc (3 * g))) = omega arith in
      let y : 3 * suc g + 1 ≡ suc (suc (suc (3 * g + 1))) = omega arith in
      let z : 3 * suc g + 2 ≡ suc (suc (suc (3 * g + 2))) = omega arith in
      record { first = rw x (r.first ∙ ap a e); second = rw y (r.second ∙ ap n e); third = rw z (r.third ∙ ap u e) }

  pub rows_at : (k g : ℕ) → g < k → RowIs (rows_from 0 k) g (a g) (n g) (u g)
  rows_at k g h = let e : 0 + g ≡ g = omega arith in subst (λ (j : ℕ). RowIs (rows_from 0 k) g (a j) (n j) (u j)) e (rows-from 0 k g h)

  -- one row more
  pub rows_snoc : (i k : ℕ) → rows_from i (suc k) ≡ rows_from i k ++ row_of (i + k)
  rows_snoc i zero = ap row_of (let e : i ≡ i + 0 = omega arith in e)
  rows_snoc i (suc k) =
      ap (λ (l : List ℕ). row_of i ++ l) (rows_snoc (suc i) k)
      ∙ ap (λ (n : ℕ). row_of i ++ (rows_from (suc i) k ++ row_of n)) (let e : suc i + k ≡ i + suc k = omega arith in e)

module _ (s : Settings) (b : Bale) where
  pub report_long : length (pattern_counts s b) ≡ 3 * b.grades
  unfolding pattern_counts
  report_long = rows_long (pattern_count is_above s b) (pattern_count is_not_above s b) (pattern_count is_missing s b) 0 b.grades

  pub report_at : (g : ℕ) → g < b.grades → RowIs (pattern_counts s b) g (pattern_count is_above s b g) (pattern_count is_not_above s b g) (pattern_count is_missing s b g)
  unfolding pattern_counts
  report_at g h = rows_at (pattern_count is_above s b) (pattern_count is_not_above s b) (pattern_count is_missing s b) b.grades g h

-- ---- they add up

module _ {A : Type 0} (f : A → Option Float) where
  one_of_three : (xs : List A) → how_many (λ x. is_above (f x)) xs + how_many (λ x. is_not_above (f x)) xs + how_many (λ x. is_missing (f x)) xs ≡ length xs
  one_of_three [] = refl
  one_of_three (x ∷ xs) = go (f x) (one_of_three xs)
    where
      ups : List A
      ups = filter (λ y. is_above (f y)) xs

      nots : List A
      nots = filter (λ y. is_not_above (f y)) xs

      rest : List A
      rest = filter (λ y. is_missing (f y)) xs

      side : (c : Bool) → length ups + length nots + length rest ≡ length xs → length (cons_if c x ups) + length (cons_if (not c) x nots) + length rest ≡ suc (length xs)
      side true r = omega arith
      side false r = omega arith

      go : (o : Option Float) → length ups + length nots + length rest ≡ length xs
          → length (cons_if (is_above o) x ups) + length (cons_if (is_not_above o) x nots) + length (cons_if (is_missing o) x rest) ≡ suc (length xs)
      go none r = omega arith
      go (some v) r = side (above_half v) r

grade-counted : (s : Settings) (b : Bale) (g : ℕ) → g < b.grades → GradeCounted s b g
unfolding pattern_count
grade-counted s b g h =
    let r = report_at s b g h in
    record {
      above = r.first;
      not_above = r.second;
      missing = r.third;
      sum = (λ i. r.first i + r.second i + r.third i) ∙ one_of_three (λ rs. present_under s b rs g) (patterns (length b.markers)) ∙ length-patterns (length b.markers);
    }

pub patterns-counted : PatternsCounted
patterns-counted s b = record { long = report_long s b; each = grade-counted s b }
