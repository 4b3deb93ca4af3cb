-- Lists of values that are clear of sign, held by binary32 and at most K: their sum is near the exact sum, and their shares of it come to between a half and two, exactly added.
use Rattle.std.specs.Prelude.{◌≡◌, true, false, List, [], ◌∷◌, map, ℕ, zero, suc, ◌+◌, ◌*◌, ◌^◌, ◌≤◌, ◌<◌, length, get_or}
use Rattle.std.proofs.Common.{sym, ap, ◌∙◌, add-zero, zero-add, suc-add, add-suc, mul_comm, mul_assoc, mul_right_comm, mul_left_comm, add-mul, zero-mul, mul-pos, suc-mul, not-suc-le-zero, le_of_suc-le-suc, ltb→lt, pow_pos}
use Rattle.std.proofs.Math.Path.{subst}
use Rattle.std.proofs.Math.Nat.{eq_of_mul-eq-mul_right}
use native.Mathlib.Omega.{arith}
use Rattle.std.proofs.Math.Dec.{T}
use lib.Ieee.{Float, nan, inf, fin, binary32, round, add, div, neg, le, fits}
use Rattle.std.specs.Float.Ieee.Fits.{add-fits, div-fits, up_pos}
use Rattle.std.specs.Float.Ieee.Scale.{finite, round_same}
use Rattle.std.specs.Float.Ieee.Positive.{num, den, den_pos, positive, positive-finite}
use Rattle.float_laws.specs.Order.{le_trans_at, le-refl-at, finite-between, finite_number}
use Rattle.float_laws.specs.Rounded.{clear, round-clear, neg-le-clear}
use Rattle.float_laws.specs.Ops.{div-at}
use Rattle.float_laws.specs.Laws.{zeroᶠ, oneᶠ}
use Rattle.float_laws.specs.Interval.{In}
use Rattle.float_laws.specs.Sums.{sum_from, Each, of_nat, whole-finite, next_in, share_in, sum-above, one-is}
use Rattle.float_laws.specs.Error.{val32, units-exact, rounded_units, add-units, add_near, grid_near, exact_sum, Near, near_step}

pub record AtMost (K : ℕ) (x : Float) : Type 0 where
  pub held : T (fits binary32 x)
  pub clear_sign : T (clear x)
  pub small : T (le x (of_nat K))

pub clear-low : (x : Float) → T (clear x) → T (le zeroᶠ x)
clear-low x s = le_trans_at zeroᶠ (neg zeroᶠ) x (unfold le neg in tt) (neg-le-clear zeroᶠ x tt s)

pub at_most_in : (K : ℕ) (x : Float) → AtMost K x → In zeroᶠ (of_nat K) x
at_most_in K x n = record { low = clear-low x n.clear_sign; high = n.small }

pub at_most-finite : (K : ℕ) (x : Float) → K ≤ 2 ^ 24 → AtMost K x → T (finite x)
at_most-finite K x k n = finite-between zeroᶠ x (of_nat K) tt (whole-finite K k) (clear-low x n.clear_sign) n.small

abbrev pub AllAtMost : ℕ → List Float → Type 0
AllAtMost K [] = Unit {0}
AllAtMost K (x ∷ xs) = AtMost K x × AllAtMost K xs

pub at_most_each : (K : ℕ) (xs : List Float) → AllAtMost K xs → Each zeroᶠ (of_nat K) xs
at_most_each K [] n = tt
at_most_each K (x ∷ xs) n = (at_most_in K x n.0, at_most_each K xs n.1)

pub clear-add : (x y : Float) → T (fits binary32 x) → T (fits binary32 y) → T (clear x) → T (clear y) → T (finite x) → T (finite y) → T (clear (add binary32 x y))
clear-add x y t u s r p q = subst (λ (z : Float). T (clear z)) (sym (add-units x y t u s r p q)) (round-clear binary32 (val32 x + val32 y) (2 ^ 149))

-- ---- the sum and the exact sum
-- k entries are in the sum already
sum_near_from : (K k A : ℕ) (a : Float) (xs : List Float) → k * K + length xs * K ≤ 2 ^ 24 → k + length xs ≤ 2 ^ 22 → K ≤ 2 ^ 24 → T (fits binary32 a) → T (clear a) → In zeroᶠ (of_nat (k * K)) a → Near k A (val32 a) → AllAtMost K xs → Near (k + length xs) (exact_sum A xs) (val32 (sum_from a xs))
sum_near_from K k A a [] h g c t s i n e = subst (λ (z : ℕ). Near z A (val32 a)) (sym (add-zero k)) n
sum_near_from K k A a (x ∷ xs) h g c t s i n e =
    let r : suc (length xs) * K ≡ length xs * K + K = suc-mul (length xs) K in
    let r' : suc k * K ≡ k * K + K = suc-mul k K in
    let p = finite-between zeroᶠ a (of_nat (k * K)) tt (whole-finite (k * K) (omega arith)) i.low i.high in
    let q = at_most-finite K x c e.0 in
    let j = next_in K (k * K) a x (omega arith) i (at_most_in K x e.0) in
    let w = finite-between zeroᶠ (add binary32 a x) (of_nat (k * K + K)) tt (whole-finite (k * K + K) (omega arith)) j.low j.high in
    let b = add_near a x t e.0.held s e.0.clear_sign p q w in
    subst (λ (z : ℕ). Near z (exact_sum (A + val32 x) xs) (val32 (sum_from (add binary32 a x) xs))) (suc-add k (length xs) ∙ sym (add-suc k (length xs)))
    (sum_near_from K (suc k) (A + val32 x) (add binary32 a x) xs (omega arith) (omega arith) c (add-fits binary32 a x) (clear-add a x t e.0.held s e.0.clear_sign p q) (subst (λ (z : ℕ). In zeroᶠ (of_nat z) (add binary32 a x)) (sym r') j)
    (near_step k A (val32 a) (val32 x) (val32 (add binary32 a x)) (omega arith) n b.0 b.1) e.1)

pub sum_near : (K : ℕ) (xs : List Float) → length xs * K ≤ 2 ^ 24 → length xs ≤ 2 ^ 22 → K ≤ 2 ^ 24 → AllAtMost K xs → Near (length xs) (exact_sum 0 xs) (val32 (sum_from zeroᶠ xs))
sum_near K xs h g c e =
    subst (λ (z : ℕ). Near z (exact_sum 0 xs) (val32 (sum_from zeroᶠ xs))) (zero-add (length xs))
    (sum_near_from K 0 0 zeroᶠ xs (omega arith) (omega arith) c (unfold fits in tt) tt (subst (λ (z : ℕ). In zeroᶠ (of_nat z) zeroᶠ) (sym (zero-mul K)) (record { low = unfold le in tt; high = unfold le lib.Ieee.of_int in tt })) (record { over = omega arith; under = omega arith }) e)

-- ---- a share, in units: within one part in 2 ^ 24 and half a unit of X * 2 ^ 149 / S
div-clear : (x s : Float) → T (clear x) → T (finite x) → T (positive s) → div binary32 x s ≡ round binary32 false (num x * den s) (num s * den x)
div-clear nan s c p q = absurd p
div-clear (inf t) s c p q = absurd p
div-clear (fin true m e) s c p q = absurd c
div-clear (fin false m e) nan c p q = absurd q
div-clear (fin false m e) (inf t) c p q = absurd q
div-clear (fin false m e) (fin true n d) c p q = absurd q
div-clear (fin false m e) (fin false zero d) c p q = absurd q
div-clear (fin false m e) (fin false (suc n) d) c p q = div-at binary32 false m e n d

top_pos : (x : Float) → T (positive x) → 0 < num x
top_pos nan p = absurd p
top_pos (inf s) p = absurd p
top_pos (fin true m e) p = absurd p
top_pos (fin false m e) p = mul-pos (ltb→lt 0 m p) (up_pos e)

first_pos : (n u : ℕ) → 0 < n * u → 0 < n
first_pos zero u h = let e : 0 * u ≡ 0 = zero-mul u in omega arith
first_pos (suc n) u h = omega arith

pub val_pos : (s : Float) → T (fits binary32 s) → T (positive s) → 0 < val32 s
val_pos s u q = first_pos (val32 s) (den s) (subst (λ (z : ℕ). 0 < z) (units-exact s u (positive-finite s q)) (mul-pos (top_pos s q) (pow_pos 149)))

ratio : (a b c d X S U : ℕ) → 0 < U → a * U ≡ X * c → b * U ≡ S * d → a * d * S ≡ X * (b * c)
ratio a b c d X S U p e f =
    eq_of_mul-eq-mul_right U p (a * d * S) (X * (b * c))
    (l ∙ sym r)
  where
    l : a * d * S * U ≡ X * S * (c * d)
    l = mul_right_comm (a * d) S U ∙ ap (λ (z : ℕ). z * S) (mul_right_comm a d U ∙ ap (λ (z : ℕ). z * d) e) ∙ simp (mul_assoc, mul_comm, mul_left_comm)

    r : X * (b * c) * U ≡ X * S * (c * d)
    r = mul_assoc X (b * c) U ∙ ap (λ (z : ℕ). X * z) (mul_right_comm b c U ∙ ap (λ (z : ℕ). z * c) f) ∙ simp (mul_assoc, mul_comm, mul_left_comm)

pub div-units : (x s : Float) → T (fits binary32 x) → T (fits binary32 s) → T (clear x) → T (finite x) → T (positive s) → div binary32 x s ≡ round binary32 false (val32 x) (val32 s)
div-units x s t u c p q =
    div-clear x s c p q
    ∙ round_same binary32 false (num x * den s) (num s * den x) (val32 x) (val32 s) (mul-pos (top_pos s q) (den_pos x)) (val_pos s u q)
    (ratio (num x) (num s) (den x) (den s) (val32 x) (val32 s) (2 ^ 149) (pow_pos 149) (units-exact x t p) (units-exact s u (positive-finite s q)))

-- G units for X parts of S
pub record Share (X S G : ℕ) : Type 0 where
  pub over : G * S * 2 ^ 24 ≤ X * 2 ^ 149 * 2 ^ 24 + X * 2 ^ 149 + S * 2 ^ 23
  pub under : X * 2 ^ 149 * 2 ^ 24 ≤ G * S * 2 ^ 24 + X * 2 ^ 149 + S * 2 ^ 23

pub share_near : (K : ℕ) (x s : Float) → K ≤ 2 ^ 24 → AtMost K x → T (fits binary32 s) → T (positive s) → T (finite (div binary32 x s)) → Share (val32 x) (val32 s) (val32 (div binary32 x s))
share_near K x s k n u q w =
    let p = at_most-finite K x k n in
    let X = val32 x in
    let S = val32 s in
    let e = div-units x s n.held u n.clear_sign p q in
    let b = grid_near X S (val_pos s u q) in
    subst (Share X S) (sym (rounded_units (div binary32 x s) X S e w)) (record { over = b.0; under = b.1 })

-- ---- the shares of a list, added exactly
module _ (s : Float) (u : T (fits binary32 s)) (q : T (positive s)) where
  abbrev pub AllFine : List Float → Type 0
  AllFine [] = Unit {0}
  AllFine (x ∷ xs) = T (finite (div binary32 x s)) × AllFine xs

  -- so many shares: the errors add up
  pub record Total (n E G : ℕ) : Type 0 where
    pub over : G * val32 s * 2 ^ 24 ≤ E * 2 ^ 149 * 2 ^ 24 + E * 2 ^ 149 + n * (val32 s * 2 ^ 23)
    pub under : E * 2 ^ 149 * 2 ^ 24 ≤ G * val32 s * 2 ^ 24 + E * 2 ^ 149 + n * (val32 s * 2 ^ 23)

  total_step : (n E G X g U K B : ℕ) → (G * val32 s * K ≤ E * U * K + E * U + n * B) × (E * U * K ≤ G * val32 s * K + E * U + n * B) → (g * val32 s * K ≤ X * U * K + X * U + B) × (X * U * K ≤ g * val32 s * K + X * U + B)
      → ((G + g) * val32 s * K ≤ (E + X) * U * K + (E + X) * U + suc n * B) × ((E + X) * U * K ≤ (G + g) * val32 s * K + (E + X) * U + suc n * B)
  total_step n E G X g U K B p q =
      let a : (G + g) * val32 s * K ≡ G * val32 s * K + g * val32 s * K = ap (λ (z : ℕ). z * K) (add-mul G g (val32 s)) ∙ add-mul (G * val32 s) (g * val32 s) K in
      let b : (E + X) * U ≡ E * U + X * U = add-mul E X U in
      let c : (E + X) * U * K ≡ E * U * K + X * U * K = ap (λ (z : ℕ). z * K) b ∙ add-mul (E * U) (X * U) K in
      let d : suc n * B ≡ n * B + B = suc-mul n B in
      (omega (arith, p.0, p.1, q.0, q.1), omega (arith, p.0, p.1, q.0, q.1))

  pub total-from : (K n E G : ℕ) (xs : List Float) → K ≤ 2 ^ 24 → Total n E G → AllAtMost K xs → AllFine xs → Total (n + length xs) (exact_sum E xs) (exact_sum G (map (λ (x : Float). div binary32 x s) xs))
  total-from K n E G [] k t e f = subst (λ (z : ℕ). Total z E G) (sym (add-zero n)) t
  total-from K n E G (x ∷ xs) k t e f =
      let h = share_near K x s k e.0 u q f.0 in
      let r = total_step n E G (val32 x) (val32 (div binary32 x s)) (2 ^ 149) (2 ^ 24) (val32 s * 2 ^ 23) (t.over, t.under) (h.over, h.under) in
      subst (λ (z : ℕ). Total z (exact_sum (E + val32 x) xs) (exact_sum (G + val32 (div binary32 x s)) (map (λ (y : Float). div binary32 y s) xs))) (suc-add n (length xs) ∙ sym (add-suc n (length xs)))
      (total-from K (suc n) (E + val32 x) (G + val32 (div binary32 x s)) xs k (record { over = r.0; under = r.1 }) e.1 f.1)

-- ---- entry by entry
pub at_most-at : (K : ℕ) (xs : List Float) (i : ℕ) → AllAtMost K xs → i < length xs → AtMost K (get_or xs i nan)
at_most-at K [] i n h = absurd (not-suc-le-zero h)
at_most-at K (x ∷ xs) zero n h = n.0
at_most-at K (x ∷ xs) (suc i) n h = at_most-at K xs i n.1 (le_of_suc-le-suc h)

pub share-at : (K : ℕ) (xs : List Float) (i : ℕ) → length xs * K ≤ 2 ^ 24 → K ≤ 2 ^ 24 → AllAtMost K xs → T (positive (sum_from zeroᶠ xs)) → i < length xs → In zeroᶠ oneᶠ (div binary32 (get_or xs i nan) (sum_from zeroᶠ xs))
share-at K xs i h k n q l =
    let x = get_or xs i nan in
    let e = at_most-at K xs i n l in
    let p = at_most-finite K x k e in
    share_in x (sum_from zeroᶠ xs) p q (clear-low x e.clear_sign) (sum-above K xs i x h (at_most_each K xs n) l e.held p (le-refl-at x (finite_number x p)))

pub fine_of : (s : Float) (u : T (fits binary32 s)) (q : T (positive s)) (xs : List Float) → ((i : ℕ) → i < length xs → T (finite (div binary32 (get_or xs i nan) s))) → AllFine s u q xs
fine_of s u q [] f = tt
fine_of s u q (x ∷ xs) f = (f 0 (omega arith), fine_of s u q xs (λ (i : ℕ) (h : i < length xs). f (suc i) (omega arith)))

pub sum_fits : (a : Float) (xs : List Float) → T (fits binary32 a) → T (fits binary32 (sum_from a xs))
sum_fits a [] t = t
sum_fits a (x ∷ xs) t = sum_fits (add binary32 a x) xs (add-fits binary32 a x)

-- ---- the shares are nonnegative and bounded again
pub share-at_most : (K : ℕ) (xs : List Float) (i : ℕ) → length xs * K ≤ 2 ^ 24 → K ≤ 2 ^ 24 → AllAtMost K xs → T (positive (sum_from zeroᶠ xs)) → i < length xs → AtMost 1 (div binary32 (get_or xs i nan) (sum_from zeroᶠ xs))
share-at_most K xs i h k n q l =
    let x = get_or xs i nan in
    let s = sum_from zeroᶠ xs in
    let e = at_most-at K xs i n l in
    let w = share-at K xs i h k n q l in
    record {
      held = div-fits binary32 x s;
      clear_sign = subst (λ (z : Float). T (clear z)) (sym (div-units x s e.held (sum_fits zeroᶠ xs (unfold fits in tt)) e.clear_sign (at_most-finite K x k e) q)) (round-clear binary32 (val32 x) (val32 s));
      small = subst (λ (z : Float). T (le (div binary32 x s) z)) (sym one-is) w.high;
    }

at_most-map : (g : Float → Float) (xs : List Float) → ((i : ℕ) → i < length xs → AtMost 1 (g (get_or xs i nan))) → AllAtMost 1 (map g xs)
at_most-map g [] f = tt
at_most-map g (x ∷ xs) f = (f 0 (omega arith), at_most-map g xs (λ (i : ℕ) (h : i < length xs). f (suc i) (omega arith)))

pub shares_at_most : (K : ℕ) (xs : List Float) → length xs * K ≤ 2 ^ 24 → K ≤ 2 ^ 24 → AllAtMost K xs → T (positive (sum_from zeroᶠ xs)) → AllAtMost 1 (map (λ (x : Float). div binary32 x (sum_from zeroᶠ xs)) xs)
shares_at_most K xs h k n q = at_most-map (λ (x : Float). div binary32 x (sum_from zeroᶠ xs)) xs (λ (i : ℕ) (l : i < length xs). share-at_most K xs i h k n q l)
