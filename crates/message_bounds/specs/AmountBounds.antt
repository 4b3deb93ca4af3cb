-- One amount after k steps: at most 128 for each step and one more, and never above 2 ^ 31. A residual more keeps it so, for 2 ^ 31 + 128 rounds to 2 ^ 31.
use Rattle.std.specs.Prelude.{◌≡◌, Bool, true, false, not, ℕ, suc, ◌+◌, ◌*◌, ◌≤◌, ◌<◌, min, T, ltb, Float}
use Rattle.std.proofs.Common.{sym, subst, arith, ltb→lt, nltb→le}
use Rattle.std.proofs.Math.Nat.{min-eq_left, min-eq_right, min-le_left, min-le_right, le-min}
use Rattle.std.specs.Float.{binary32}
use Rattle.std.specs.Float.Ieee.{le, fits, of_int}
use Rattle.std.specs.Float.Ieee.Fits.{add-fits}
use Rattle.std.specs.Float.Ieee.Scale.{finite}
use Rattle.float_laws.specs.Order.{le_trans_at}
use Rattle.float_laws.specs.Laws.{zeroᶠ}
use Rattle.float_laws.specs.Interval.{In, add-test, add_in}
use Rattle.float_laws.specs.Sums.{of_nat}
use Rattle.float_laws.specs.Totals.{clear-add}
use Rattle.float_laws.specs.Scaled.{exact_multiple, whole_rises, sum_under}
use Rattle.definition.specs.Floats.{◌⊕◌, largest_finite}
use Rattle.message_bounds.specs.Residuals.{Small, small_in, small_finite, largest_residual}

-- the steps and one more, counted to 2 ^ 24
abbrev pub counted : ℕ → ℕ
counted k = min (suc k) 16777216

abbrev pub most : ℕ → Float
most k = of_nat (counted k * 128)

abbrev pub Amount : ℕ → Float → Type 0
Amount k = Small (most k)

-- by whether the count has come to its end
module _ (k : ℕ) (P : ℕ → ℕ → Type 0) (below : suc k < 16777216 → P (suc k) (suc (suc k))) (reached : P 16777216 16777216) where
  by_count : P (counted k) (counted (suc k))
  by_count = go (ltb (suc k) 16777216) (λ t. ltb→lt (suc k) 16777216 t) (λ t. nltb→le (suc k) 16777216 t)
    where
      both : (a b : ℕ) → counted k ≡ a → counted (suc k) ≡ b → P a b → P (counted k) (counted (suc k))
      both a b e f h = subst (λ (z : ℕ). P z (counted (suc k))) (sym e) (subst (P a) (sym f) h)

      go : (b : Bool) → (T b → suc k < 16777216) → (T (not b) → 16777216 ≤ suc k) → P (counted k) (counted (suc k))
      go true f g = let l = f tt in both (suc k) (suc (suc k)) (min-eq_left (omega arith)) (min-eq_left (omega arith)) (below l)
      go false f g = let l = g tt in both 16777216 16777216 (min-eq_right (omega arith)) (min-eq_right (omega arith)) reached

most_rises : (k n : ℕ) → k ≤ n → T (le (most k) (most n))
most_rises k n h =
    let l : counted k ≤ counted n = le-min (omega (arith, min-le_left (suc k) 16777216)) (min-le_right (suc k) 16777216) in
    whole_rises (counted k * 128) (counted n * 128) (omega arith)

most-top : (k : ℕ) → T (le (most k) (of_nat 2147483648))
most-top k = whole_rises (counted k * 128) 2147483648 (omega (arith, min-le_right (suc k) 16777216))

pub most-finite : (k : ℕ) → T (le (most k) largest_finite)
most-finite k = le_trans_at (most k) (of_nat 2147483648) largest_finite (most-top k) (unfold le of_int in tt)

pub residual-low : (k : ℕ) → T (le largest_residual (most k))
residual-low k = le_trans_at largest_residual (most 0) (most k) (unfold le of_int in tt) (most_rises 0 k (omega arith))

pub wider : (a b x : Float) → T (le a b) → Small a x → Small b x
wider a b x l h = record { holds = h.holds; clear_sign = h.clear_sign; small = le_trans_at x a b h.small l }

pub later : (k n : ℕ) (x : Float) → k ≤ n → Amount k x → Amount n x
later k n x l h = wider (most k) (most n) x (most_rises k n l) h

zero_small : Small largest_residual zeroᶠ
zero_small = record { holds = unfold fits in tt; clear_sign = tt; small = unfold le in tt }

pub zero_amount : (k : ℕ) → Amount k zeroᶠ
zero_amount k = wider largest_residual (most k) zeroᶠ (residual-low k) zero_small

pub amount_finite : (k : ℕ) (x : Float) → Amount k x → T (finite x)
amount_finite k x h = small_finite largest_finite x tt (wider (most k) largest_finite x (most-finite k) h)

-- one residual more
pub amount_add : (k : ℕ) (x r : Float) → Amount k x → Small largest_residual r → Amount (suc k) (x ⊕ r)
amount_add k x r h g =
    record {
      holds = add-fits binary32 x r;
      clear_sign = clear-add x r h.holds g.holds h.clear_sign g.clear_sign (amount_finite k x h) (small_finite largest_residual r tt g);
      small = by_count k (λ a b. In zeroᶠ (of_nat (a * 128)) x → T (le (x ⊕ r) (of_nat (b * 128)))) one_more_lem at_top (small_in (most k) x h);
    }
  where
    one_more_lem : suc k < 16777216 → In zeroᶠ (of_nat (suc k * 128)) x → T (le (x ⊕ r) (of_nat (suc (suc k) * 128)))
    one_more_lem l i =
        let e : suc k * 128 + 128 ≡ suc (suc k) * 128 = omega arith in
        subst (λ (n : ℕ). T (le (x ⊕ r) (of_nat n))) e (sum_under (suc k * 128) 128 x r (exact_multiple 7 (suc k) (omega arith) l) (exact_multiple 7 1 (omega arith) (omega arith)) i (unfold of_int in small_in largest_residual r g))

    at_top : In zeroᶠ (of_nat 2147483648) x → T (le (x ⊕ r) (of_nat 2147483648))
    at_top i = (add_in zeroᶠ (of_nat 2147483648) i (small_in largest_residual r g) (unfold add-test of_int in tt)).high
