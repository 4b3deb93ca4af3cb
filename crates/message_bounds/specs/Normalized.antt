-- Values of clear sign that are at most K: powers, differences from 1, sums, quotients; and `normalize`, whose entries are shares of their sum.
use Rattle.std.specs.Prelude.{◌≡◌, refl, Bool, true, false, not, cond, List, map, ℕ, zero, suc, ◌+◌, ◌*◌, ◌/◌, ◌%◌, ◌^◌, ◌≤◌, T, eqb, length, Float}
use Rattle.std.proofs.Common.{sym, ap, subst, arith, lit≤}
use Rattle.std.specs.Float.{binary32}
use Rattle.std.specs.Float.Ieee.{div, le, lt, fits, is_nan}
use Rattle.std.specs.Float.Ieee.Fits.{add-fits, div-fits}
use Rattle.std.specs.Float.Ieee.Positive.{above_of_le, positive}
use Rattle.float_laws.specs.Order.{le_trans_at, le-refl-at, lt→le}
use Rattle.float_laws.specs.Rounded.{clear, round-clear}
use Rattle.float_laws.specs.Laws.{zeroᶠ, oneᶠ, div-at-most-one}
use Rattle.float_laws.specs.Sums.{sum_from, of_nat, whole_mono, next_in, one-is}
use Rattle.float_laws.specs.Error.{val32}
use Rattle.float_laws.specs.Totals.{AtMost, AllAtMost, at_most_in, at_most-finite, clear-add, div-units, shares_at_most}
use Rattle.float_laws.specs.Products.{at_most-mul}
use Rattle.definition.specs.Floats.{◌⊕◌, ◌⊗◌, ◌⊘◌, c, avoid_underflow, powi, powi_from}
use Rattle.definition.specs.Vectors.{sum_of, normalize}
use Rattle.definition.specs.Refusals.{least_probability, greatest_probability}
use Rattle.message_bounds.specs.Bounded.{above-clear, BoundedEntry, Ranged, avoid_underflow-entry, at_most-range}

-- ---- entries and settings are nonnegative and bounded
pub at_most_of : (lo x : Float) → T (positive lo) → T (fits binary32 x) → T (le lo x) → T (le x oneᶠ) → AtMost 1 x
at_most_of lo x p t l h = record { held = t; clear_sign = above-clear x (above_of_le lo x p l); small = subst (λ (z : Float). T (le x z)) (sym one-is) h }

pub entry-at_most : (x : Float) → BoundedEntry x → AtMost 1 x
entry-at_most x e = at_most_of c x tt e.holds e.inside.low e.inside.high

pub ranged_at_most : (x : Float) → Ranged x → AtMost 1 x
ranged_at_most x r = at_most_of least_probability x tt r.holds r.inside.low (le_trans_at x greatest_probability oneᶠ r.inside.high (unfold le in tt))

pub one-at_most : AtMost 1 oneᶠ
one-at_most = at_most_of oneᶠ oneᶠ tt (unfold fits in tt) (unfold le in tt) (unfold le in tt)

pub at_most-more : (K L : ℕ) (x : Float) → K ≤ L → L ≤ 2 ^ 24 → AtMost K x → AtMost L x
at_most-more K L x h g n = record { held = n.held; clear_sign = n.clear_sign; small = le_trans_at x (of_nat K) (of_nat L) n.small (whole_mono K L h g) }

pub at_most-add : (K L : ℕ) (x y : Float) → K + L ≤ 2 ^ 24 → AtMost K x → AtMost L y → AtMost (K + L) (x ⊕ y)
at_most-add K L x y h n m =
    let p = at_most-finite K x (omega arith) n in
    let q = at_most-finite L y (omega arith) m in
    record {
      held = add-fits binary32 x y;
      clear_sign = clear-add x y n.held m.held n.clear_sign m.clear_sign p q;
      small = (next_in L K x y h (at_most_in K x n) (at_most_in L y m)).high;
    }

pub at_most_times : (x y : Float) → AtMost 1 x → AtMost 1 y → AtMost 1 (x ⊗ y)
at_most_times x y n m = at_most-mul 1 x y (lit≤ tt) n m

pub at_most-quotient : (x s : Float) → AtMost 1 x → T (fits binary32 s) → T (positive s) → T (le x s) → AtMost 1 (x ⊘ s)
at_most-quotient x s n u q l =
    let p = at_most-finite 1 x (lit≤ tt) n in
    record {
      held = div-fits binary32 x s;
      clear_sign = subst (λ (z : Float). T (clear z)) (sym (div-units x s n.held u n.clear_sign p q)) (round-clear binary32 (val32 x) (val32 s));
      small = subst (λ (z : Float). T (le (x ⊘ s) z)) (sym one-is) (div-at-most-one x s p q l);
    }

-- ---- powers
powi-on-at_most : (k : ℕ) (a b : Float) (n : ℕ) → AtMost 1 a → AtMost 1 b → AtMost 1 (powi_from k a b n)
unfolding powi_from
powi-on-at_most zero a b n i j = i
powi-on-at_most (suc k) a b zero i j = i
powi-on-at_most (suc k) a b (suc n) i j = powi-on-at_most k (cond (eqb (suc n % 2) 1) (a ⊗ b) a) (b ⊗ b) (suc n / 2) (pick (eqb (suc n % 2) 1)) (at_most_times b b j j)
  where
    pick : (t : Bool) → AtMost 1 (cond t (a ⊗ b) a)
    pick true = at_most_times a b i j
    pick false = i

pub powi-at_most : (b : Float) (n : ℕ) → AtMost 1 b → AtMost 1 (powi b n)
unfolding powi
powi-at_most b n j = powi-on-at_most n oneᶠ b n one-at_most j

-- ---- raised
pub avoid_underflow-at_most : (x : Float) → AtMost 1 x → AtMost 1 (avoid_underflow x)
avoid_underflow-at_most x n = entry-at_most (avoid_underflow x) (avoid_underflow-entry x n.held (at_most-range x n))

pub avoid_underflow_grows : (x : Float) → T (not (is_nan x)) → T (le x (avoid_underflow x))
unfolding avoid_underflow
avoid_underflow_grows x n = go (lt x c) (λ (t : T (lt x c)). lt→le x c t)
  where
    go : (b : Bool) → (T b → T (le x c)) → T (le x (cond b c x))
    go true f = f tt
    go false f = le-refl-at x n

-- ---- sums as float_laws has them
pub sum_of-is : (l : List Float) → sum_of l ≡ sum_from zeroᶠ l
unfolding sum_of
sum_of-is l = refl

pub normalize-is : (l : List Float) → normalize l ≡ map (λ (x : Float). div binary32 x (sum_from zeroᶠ l)) l
unfolding normalize
normalize-is l = ap (λ (s : Float). map (λ (x : Float). x ⊘ s) l) (sum_of-is l)

-- ---- `normalise` of a list whose sum is above zero
pub normal-at_most : (K : ℕ) (l : List Float) → length l * K ≤ 2 ^ 24 → K ≤ 2 ^ 24 → AllAtMost K l → T (positive (sum_from zeroᶠ l)) → AllAtMost 1 (normalize l)
normal-at_most K l h k n q = subst (AllAtMost 1) (sym (normalize-is l)) (shares_at_most K l h k n q)
