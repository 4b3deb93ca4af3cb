-- Bounds on the exponential: for y ≤ 0, an infinity included, it lies between 0 and 1; and exp 0 is 1.
use Rattle.std.specs.Prelude.{◌≡◌, refl, Bool, ◌&&◌, cond, pos, negsuc, Float}
use Rattle.std.proofs.Math.Path.{subst}
use Rattle.std.proofs.Math.Logic.{⊎_elim}
use Rattle.std.proofs.Math.Bool.{true, false}
use Prim.Native.Nat.{ℕ, zero, suc, ◌≤◌, ◌<◌, ◌^◌}
use native.Mathlib.Omega.{arith}
use Rattle.std.proofs.Math.Dec.{T}
use Rattle.std.proofs.Common.{lit≤}
use Rattle.std.specs.Float.{fin}
use Rattle.std.specs.Float.Ieee.{add, mul, div, neg, le, lt, round, of_int, to_unsigned, is_nan}
use Rattle.std.specs.Float.Ieee.Fits.{and_l, and_r}
use Rattle.std.specs.Float.Ieee.Scale.{finite}
use Rattle.float_laws.specs.Order.{le_trans_at, le-neg, le-total-at, le-number-l, nlt→le, le_lt_trans, finite_number, neg-neg}
use Rattle.float_laws.specs.Laws.{zeroᶠ, oneᶠ, mul_mono_l}
use Rattle.float_laws.specs.Interval.{In, in_self, in_finite, add-test, add_in, mul-test, mul_in, div-test, div_in}
use Rattle.float_laws.specs.Sums.{of_nat, whole_mono}
use Rattle.float_laws.specs.Patterns.{whole-part-le, whole-part_ge, whole-part-lt}
use Rattle.float_laws.specs.Table.{upto, upto-at, is_false}
use Rattle.definition.specs.Floats.{◌⊕◌, ◌⊗◌, ◌⊘◌, ln2, log2e, minus87, ratio, exp_series, exp_reduced, exp}

-- ---- y between -87 and 0, and how often the exponential is halved
abbrev pub halvings : Float → ℕ
halvings y = to_unsigned 32 (neg y ⊗ log2e)

pub in_range : (y : Float) → T (le y zeroᶠ) → lt y minus87 ≡ false → In minus87 zeroᶠ y
in_range y h e = record { low = nlt→le y minus87 (le-number-l y zeroᶠ h) (unfold is_nan in tt) (is_false (lt y minus87) e); high = h }

turned : (y : Float) → In minus87 zeroᶠ y → In (fin true 0 (pos 0)) (fin false 87 (pos 0)) (neg y)
turned y i = record { low = unfold neg in le-neg y zeroᶠ i.high; high = unfold neg in le-neg minus87 y i.low }

pub scaled_in : (y : Float) → In minus87 zeroᶠ y → In zeroᶠ (fin false 126 (pos 0)) (neg y ⊗ log2e)
scaled_in y i = mul_in zeroᶠ (fin false 126 (pos 0)) (turned y i) (in_self log2e (unfold is_nan in tt)) (unfold mul-test in tt)

pub halvings-le : (y : Float) → In minus87 zeroᶠ y → halvings y ≤ 126
halvings-le y i = let s = scaled_in y i in whole-part-le 32 126 (neg y ⊗ log2e) (in_finite s tt) s.high

-- ---- the steps of the series keep h in [0, H], where one step does
abbrev seven : Float
seven = fin false 7 (pos 0)

step_test : Float → Float → Float → Float → Float → Bool
step_test rl rh H A B = mul-test A B rl rh zeroᶠ H && (div-test A B A B oneᶠ seven && add-test zeroᶠ H oneᶠ oneᶠ A B)

count_in_lem : (j : ℕ) → 0 < j → j ≤ 7 → In oneᶠ seven (of_nat j)
count_in_lem j h k =
    record { low = le_trans_at oneᶠ (of_nat 1) (of_nat j) (unfold le of_int in tt) (whole_mono 1 j h (omega arith)); high = le_trans_at (of_nat j) (of_nat 7) seven (whole_mono j 7 k (lit≤ tt)) (unfold le of_int in tt) }

exp_series_in : (rl rh H A B : Float) (j : ℕ) (r h : Float) → T (step_test rl rh H A B) → j ≤ 7 → In rl rh r → In zeroᶠ H h → In zeroᶠ H (exp_series j r h)
unfolding exp_series step_test
exp_series_in rl rh H A B zero r h t k i g = g
exp_series_in rl rh H A B (suc j) r h t k i g =
    let m = mul-test A B rl rh zeroᶠ H in
    let d = div-test A B A B oneᶠ seven in
    let a = add-test zeroᶠ H oneᶠ oneᶠ A B in
    let u = and_r m (d && a) t in
    exp_series_in rl rh H A B j r (oneᶠ ⊕ r ⊗ h ⊘ of_nat (suc j)) t (omega arith) i
    (add_in zeroᶠ H (in_self oneᶠ (unfold is_nan in tt)) (div_in A B (mul_in A B i g (and_l m (d && a) t)) (count_in_lem (suc j) (omega arith) k) (and_l d a u)) (and_r d a u))

-- ---- the rest r = y + n * LN_2: n ≤ -y * LOG2_E < n + 1, so -y lies between values near n * ln 2 and (n + 1) * ln 2
abbrev under2 : Float
under2 = fin false 5814539 (negsuc 22)

abbrev over2 : Float
over2 = fin false 5814541 (negsuc 22)

abbrev high_of : ℕ → Float
high_of n = of_nat (suc n) ⊗ over2

abbrev low_of : ℕ → Float
low_of n = of_nat n ⊗ under2

abbrev back_of_lem : ℕ → Float
back_of_lem n = of_nat n ⊗ ln2

abbrev rest-low : Float
rest-low = fin true 3 (negsuc 1)

abbrev rest_high : ℕ → Float
rest_high zero = zeroᶠ
rest_high (suc n) = fin false 1 (negsuc 2)

high_test : ℕ → Bool
high_test n = finite (high_of n) && le (fin false (suc n) (pos 0)) (high_of n ⊗ log2e)

low-test : ℕ → Bool
low-test n = finite (low_of (suc n)) && lt (low_of (suc n) ⊗ log2e) (fin false (suc n) (pos 0))

rest-test : ℕ → Bool
rest-test n = finite (back_of_lem n) && add-test rest-low (rest_high n) (neg (high_of n)) (neg (low_of n)) (back_of_lem n) (back_of_lem n)

highs_pass : T (upto high_test 127)
unfolding high_test mul of_int le
highs_pass = tt

lows_pass : T (upto low-test 126)
unfolding low-test mul of_int lt
lows_pass = tt

rests_pass : T (upto rest-test 127)
unfolding rest-test add-test mul of_int neg
rests_pass = tt

pos_log : T (le zeroᶠ log2e)
unfolding le
pos_log = tt

-- 2 ^ -n, for n from 1 to 126
half-test : ℕ → Bool
half-test m = le zeroᶠ (ratio 1 (2 ^ suc m)) && le (ratio 1 (2 ^ suc m)) (fin false 1 (negsuc 0))

halves_pass : T (upto half-test 126)
unfolding half-test le round
halves_pass = tt

half_in : (m : ℕ) → m < 126 → In zeroᶠ (fin false 1 (negsuc 0)) (ratio 1 (2 ^ suc m))
unfolding half-test
half_in m h =
    let t = upto-at half-test 126 halves_pass m h in
    let a = le zeroᶠ (ratio 1 (2 ^ suc m)) in
    let b = le (ratio 1 (2 ^ suc m)) (fin false 1 (negsuc 0)) in
    record { low = and_l a b t; high = and_r a b t }

module _ (y : Float) (i : In minus87 zeroᶠ y) where
  t-finite : T (finite (neg y))
  t-finite = in_finite (turned y i) tt

  z-finite : T (finite (neg y ⊗ log2e))
  z-finite = in_finite (scaled_in y i) tt

  under_high : (n : ℕ) → n ≤ 126 → halvings y ≡ n → T (le (neg y) (high_of n))
  unfolding high_test
  under_high n k e =
      let t = upto-at high_test 127 highs_pass n (omega arith) in
      let g = le (fin false (suc n) (pos 0)) (high_of n ⊗ log2e) in
      let f = and_l (finite (high_of n)) g t in
      ⊎_elim (λ (l : T (le (neg y) (high_of n))). l)
      (λ (l : T (le (high_of n) (neg y))).
      absurd (clash n (to_unsigned 32 (neg y ⊗ log2e)) e
      (whole-part_ge 32 (suc n) (neg y ⊗ log2e) (omega arith) z-finite
      (le_trans_at (fin false (suc n) (pos 0)) (high_of n ⊗ log2e) (neg y ⊗ log2e) (and_r (finite (high_of n)) g t) (mul_mono_l (high_of n) (neg y) log2e f t-finite tt l pos_log)))))
      (le-total-at (neg y) (high_of n) (finite_number (neg y) t-finite) (finite_number (high_of n) f))
    where
      clash : (n h : ℕ) → h ≡ n → suc n ≤ h → ⊥
      clash n h e l = omega arith

  over-low : (n : ℕ) → suc n ≤ 126 → halvings y ≡ suc n → T (le (low_of (suc n)) (neg y))
  unfolding low-test
  over-low n k e =
      let t = upto-at low-test 126 lows_pass n k in
      let g = lt (low_of (suc n) ⊗ log2e) (fin false (suc n) (pos 0)) in
      let f = and_l (finite (low_of (suc n))) g t in
      ⊎_elim (λ (l : T (le (low_of (suc n)) (neg y))). l)
      (λ (l : T (le (neg y) (low_of (suc n)))).
      absurd (clash (suc n) (to_unsigned 32 (neg y ⊗ log2e)) e
      (whole-part-lt 32 (suc n) (neg y ⊗ log2e) (omega arith) z-finite
      (le_lt_trans (neg y ⊗ log2e) (low_of (suc n) ⊗ log2e) (fin false (suc n) (pos 0)) (mul_mono_l (neg y) (low_of (suc n)) log2e t-finite f tt l pos_log) (and_r (finite (low_of (suc n))) g t)))))
      (le-total-at (low_of (suc n)) (neg y) (finite_number (low_of (suc n)) f) (finite_number (neg y) t-finite))
    where
      clash : (n h : ℕ) → h ≡ n → h < n → ⊥
      clash n h e l = omega arith

  y-above : (n : ℕ) → n ≤ 126 → halvings y ≡ n → T (le (neg (high_of n)) y)
  y-above n k e = subst (λ (z : Float). T (le (neg (high_of n)) z)) (neg-neg y) (le-neg (neg y) (high_of n) (under_high n k e))

  y-below : (n : ℕ) → n ≤ 126 → halvings y ≡ n → T (le y (neg (low_of n)))
  y-below zero k e = le_trans_at y zeroᶠ (neg (low_of 0)) i.high (unfold le neg mul of_int in tt)
  y-below (suc n) k e = subst (λ (z : Float). T (le z (neg (low_of (suc n))))) (neg-neg y) (le-neg (low_of (suc n)) (neg y) (over-low n k e))

  rest_in : (n : ℕ) → n ≤ 126 → halvings y ≡ n → In rest-low (rest_high n) (y ⊕ back_of_lem n)
  unfolding rest-test
  rest_in n k e =
      let t = upto-at rest-test 127 rests_pass n (omega arith) in
      let a = add-test rest-low (rest_high n) (neg (high_of n)) (neg (low_of n)) (back_of_lem n) (back_of_lem n) in
      let j : In (neg (high_of n)) (neg (low_of n)) y = record { low = y-above n k e; high = y-below n k e } in
      add_in rest-low (rest_high n) j (in_self (back_of_lem n) (finite_number (back_of_lem n) (and_l (finite (back_of_lem n)) a t))) (and_r (finite (back_of_lem n)) a t)

  -- by n: at 0 the rest is at most 0 and h at most 1; above 0 the halving makes up for h
  at_in : (n : ℕ) → n ≤ 126 → halvings y ≡ n → In zeroᶠ oneᶠ (exp_reduced n y)
  unfolding exp_reduced
  at_in zero k e =
      mul_in zeroᶠ oneᶠ (exp_series_in rest-low zeroᶠ oneᶠ rest-low zeroᶠ 7 (y ⊕ back_of_lem 0) oneᶠ (unfold step_test mul-test div-test add-test in tt) (lit≤ tt) (rest_in 0 k e) (record { low = unfold le in tt; high = unfold le in tt }))
      whole-one (unfold mul-test in tt)
    where
      whole-one : In oneᶠ oneᶠ (ratio 1 (2 ^ 0))
      whole-one = record { low = unfold le round in tt; high = unfold le round in tt }
  at_in (suc n) k e =
      mul_in zeroᶠ oneᶠ
      (exp_series_in rest-low (fin false 1 (negsuc 2)) (fin false 5 (negsuc 1)) (fin true 15 (negsuc 3)) (fin false 5 (negsuc 4)) 7 (y ⊕ back_of_lem (suc n)) oneᶠ (unfold step_test mul-test div-test add-test in tt) (lit≤ tt) (rest_in (suc n) k e) (record { low = unfold le in tt; high = unfold le in tt }))
      (half_in n (omega arith)) (unfold mul-test in tt)

  main_in : In zeroᶠ oneᶠ (exp_reduced (halvings y) y)
  main_in = at_in (halvings y) (halvings-le y i) refl

pub exp_in : (y : Float) → T (le y zeroᶠ) → In zeroᶠ oneᶠ (exp y)
unfolding exp
exp_in y h = go (lt y minus87) refl
  where
    go : (b : Bool) → lt y minus87 ≡ b → In zeroᶠ oneᶠ (cond b zeroᶠ (exp_reduced (halvings y) y))
    go true e = record { low = unfold le in tt; high = unfold le in tt }
    go false e = main_in y (in_range y h e)

-- ---- exp 0 is 1
pub exp-zero : exp zeroᶠ ≡ oneᶠ
unfolding exp exp_reduced exp_series lt mul add div neg of_int to_unsigned round
exp-zero = refl
