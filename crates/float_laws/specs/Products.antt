-- Products of two lists, entry by entry, and their sum: for xs whose exact total is at least a half and ys whose entries are each at least B units, the sum is at least B / 4.
-- A product is the exact one but for one part in 2 ^ 24 and half a unit. And of n entries one is at least their exact total divided by n.
use Rattle.std.specs.Prelude.{◌≡◌, refl, Bool, true, false, not, List, [], ◌∷◌, ℕ, zero, suc, ◌+◌, ◌*◌, ◌/◌, ◌^◌, ◌≤◌, ◌<◌, T, leb, length, get_or, take, drop, Float}
use Rattle.std.proofs.Common.{sym, ap, ◌∙◌, subst, le_trans, le_of_eq, le_of_lt, add-zero, zero-add, add_assoc, suc-add, add-suc, mul_assoc, one-mul, zero-mul, mul-le-mul_left, mul-le-mul_right, le_of_mul-le-mul_right, mul-pos, suc-ne-zero, arith, lt→ltb, leb→le, lit≤, pow_pos}
use Rattle.std.proofs.Math.Nat.{suc_inj, zero-div}
use Rattle.std.proofs.Math.Dec.{nleb→lt}
use Rattle.std.specs.Float.{nan, inf, fin, binary32}
use Rattle.std.specs.Float.Ieee.{up, down, round, mul, le, fits}
use Rattle.std.specs.Float.Ieee.Fits.{mul-fits}
use Rattle.std.specs.Float.Ieee.Exact.{HasValue}
use Rattle.std.specs.Float.Ieee.Scale.{grid, finite}
use Rattle.std.specs.Float.Ieee.Positive.{num, den, den_pos, positive}
use Rattle.definition.specs.Floats.{◌⊗◌}
use Rattle.definition.specs.Vectors.{zip_with}
use Rattle.float_laws.specs.Order.{Le, le→Le, le_trans_at}
use Rattle.float_laws.specs.Rounded.{clear, round-clear}
use Rattle.float_laws.specs.Laws.{mul-at-most-left}
use Rattle.float_laws.specs.Sums.{of_nat, one-is}
use Rattle.float_laws.specs.Whole.{values_times}
use Rattle.float_laws.specs.Error.{val32, units-exact, rounded_units, grid_near, strip, exact_sum}
use Rattle.float_laws.specs.Totals.{AtMost, AllAtMost, clear-low, at_most-finite}

-- ---- a product in units
clear_value : (x : Float) (a c : ℕ) → T (clear x) → T (finite x) → num x * c ≡ a * den x → HasValue x false a c
clear_value nan a c s p e = absurd p
clear_value (inf u) a c s p e = absurd p
clear_value (fin true m k) a c s p e = absurd s
clear_value (fin false m k) a c s p e = (refl, e)

pub mul-units : (x y : Float) → T (fits binary32 x) → T (fits binary32 y) → T (clear x) → T (clear y) → T (finite x) → T (finite y) → mul binary32 x y ≡ round binary32 false (val32 x * val32 y) (2 ^ 149 * 2 ^ 149)
mul-units x y t u s r p q =
    values_times x y (val32 x) (2 ^ 149) (val32 y) (2 ^ 149) (pow_pos 149) (pow_pos 149) (clear_value x (val32 x) (2 ^ 149) s p (units-exact x t p))
    (clear_value y (val32 y) (2 ^ 149) r q (units-exact y u q))

pub clear-mul : (x y : Float) → T (fits binary32 x) → T (fits binary32 y) → T (clear x) → T (clear y) → T (finite x) → T (finite y) → T (clear (mul binary32 x y))
clear-mul x y t u s r p q = subst (λ (z : Float). T (clear z)) (sym (mul-units x y t u s r p q)) (round-clear binary32 (val32 x * val32 y) (2 ^ 149 * 2 ^ 149))

pub at_most-mul : (K : ℕ) (x y : Float) → K ≤ 2 ^ 24 → AtMost K x → AtMost 1 y → AtMost K (mul binary32 x y)
at_most-mul K x y k n m =
    let p = at_most-finite K x k n in
    let q = at_most-finite 1 y (lit≤ tt) m in
    record {
      held = mul-fits binary32 x y;
      clear_sign = clear-mul x y n.held m.held n.clear_sign m.clear_sign p q;
      small = le_trans_at (mul binary32 x y) x (of_nat K) (mul-at-most-left x y n.held p q (clear-low x n.clear_sign) (subst (λ (z : Float). T (le y z)) one-is m.small)) n.small;
    }

-- G units for X * Y units of 2 ^ -298: within one part in 2 ^ 24, and half a unit
pub record Product (X Y G : ℕ) : Type 0 where
  pub over : G * 2 ^ 149 * 2 ^ 24 ≤ X * Y * 2 ^ 24 + X * Y + 2 ^ 149 * 2 ^ 23
  pub under : X * Y * 2 ^ 24 ≤ G * 2 ^ 149 * 2 ^ 24 + X * Y + 2 ^ 149 * 2 ^ 23

pub mul_near : (K : ℕ) (x y : Float) → K ≤ 2 ^ 24 → AtMost K x → AtMost 1 y → Product (val32 x) (val32 y) (val32 (mul binary32 x y))
mul_near K x y k n m =
    let N = val32 x * val32 y in
    let U = 2 ^ 149 in
    let e = mul-units x y n.held m.held n.clear_sign m.clear_sign (at_most-finite K x k n) (at_most-finite 1 y (lit≤ tt) m) in
    let G = grid binary32 N (U * U) in
    let g = rounded_units (mul binary32 x y) N (U * U) e (at_most-finite K (mul binary32 x y) k (at_most-mul K x y k n m)) in
    let b = rw (← mul_assoc G U U) at (grid_near N (U * U) (mul-pos (pow_pos 149) (pow_pos 149))) in
    subst (Product (val32 x) (val32 y)) (sym g)
    (record { over = strip (G * U) N N U (2 ^ 24) (U * 2 ^ 23) (pow_pos 149) b.0; under = strip N (G * U) N U (2 ^ 24) (U * 2 ^ 23) (pow_pos 149) b.1 })

-- ---- two lists
abbrev pub zip_mul : List Float → List Float → List Float
zip_mul = zip_with ◌⊗◌

pub zip_at_most : (K : ℕ) (xs ys : List Float) → K ≤ 2 ^ 24 → AllAtMost K xs → AllAtMost 1 ys → AllAtMost K (zip_mul xs ys)
zip_at_most K [] ys k n m = tt
zip_at_most K (x ∷ xs) [] k n m = tt
zip_at_most K (x ∷ xs) (y ∷ ys) k n m = (at_most-mul K x y k n.0 m.0, zip_at_most K xs ys k n.1 m.1)

pub zip_length : (xs ys : List Float) → length xs ≡ length ys → length (zip_mul xs ys) ≡ length xs
zip_length [] ys e = refl
zip_length (x ∷ xs) [] e = sym e
zip_length (x ∷ xs) (y ∷ ys) e = ap suc (zip_length xs ys (suc_inj e))

-- each entry is at least B units
abbrev pub AllOver : ℕ → List Float → Type 0
AllOver B [] = Unit {0}
AllOver B (x ∷ xs) = (B ≤ val32 x) × AllOver B xs

-- with U for 2 ^ 149: omega's numbers stay small
over_step : (A P X Y B G n U : ℕ) → B ≤ Y → A * B * 16777215 ≤ P * U * 16777216 + n * (U * 8388608) → X * Y * 16777216 ≤ G * U * 16777216 + X * Y + U * 8388608
    → (A + X) * B * 16777215 ≤ (P + G) * U * 16777216 + suc n * (U * 8388608)
over_step A P X Y B G n U b h k = omega (arith, mul-le-mul_left X b)

pub over-from : (K A P n B : ℕ) (xs ys : List Float) → K ≤ 2 ^ 24 → length xs ≡ length ys → AllAtMost K xs → AllAtMost 1 ys → AllOver B ys → A * B * 16777215 ≤ P * 2 ^ 149 * 16777216 + n * (2 ^ 149 * 8388608)
    → exact_sum A xs * B * 16777215 ≤ exact_sum P (zip_mul xs ys) * 2 ^ 149 * 16777216 + (n + length xs) * (2 ^ 149 * 8388608)
over-from K A P n B [] ys k l e f o h = subst (λ (z : ℕ). A * B * 16777215 ≤ P * 2 ^ 149 * 16777216 + z * (2 ^ 149 * 8388608)) (sym (add-zero n)) h
over-from K A P n B (x ∷ xs) [] k l e f o h = absurd (suc-ne-zero (length xs) l)
over-from K A P n B (x ∷ xs) (y ∷ ys) k l e f o h =
    subst (λ (z : ℕ). exact_sum (A + val32 x) xs * B * 16777215 ≤ exact_sum (P + val32 (mul binary32 x y)) (zip_mul xs ys) * 2 ^ 149 * 16777216 + z * (2 ^ 149 * 8388608)) (suc-add n (length xs) ∙ sym (add-suc n (length xs)))
    (over-from K (A + val32 x) (P + val32 (mul binary32 x y)) (suc n) B xs ys k (suc_inj l) e.1 f.1 o.1
    (over_step A P (val32 x) (val32 y) B (val32 (mul binary32 x y)) n (2 ^ 149) o.0 h (mul_near K x y k e.0 f.0).under))

-- ---- exact sums
exact-shift : (n : ℕ) (xs : List Float) → exact_sum n xs ≡ n + exact_sum 0 xs
exact-shift n [] = sym (add-zero n)
exact-shift n (x ∷ xs) = exact-shift (n + val32 x) xs ∙ add_assoc n (val32 x) (exact_sum 0 xs) ∙ ap (λ (z : ℕ). n + z) (sym (ap (λ (z : ℕ). exact_sum z xs) (zero-add (val32 x)) ∙ exact-shift (val32 x) xs))

pub exact_cons : (x : Float) (xs : List Float) → exact_sum 0 (x ∷ xs) ≡ val32 x + exact_sum 0 xs
exact_cons x xs = exact-shift (0 + val32 x) xs ∙ ap (λ (z : ℕ). z + exact_sum 0 xs) (zero-add (val32 x))

-- ---- the largest of n entries is at least their total divided by n
abbrev pub Largest : List Float → Type 0
Largest xs = (i : ℕ) × (i < length xs) × (exact_sum 0 xs ≤ length xs * val32 (get_or xs i nan))

one_more_lem : (x s n v : ℕ) → x ≤ v → s ≤ n * v → x + s ≤ suc n * v
one_more_lem x s n v h k = omega arith

pub largest : (x : Float) (xs : List Float) → Largest (x ∷ xs)
largest x [] = (0, omega arith, le_of_eq (zero-add (val32 x) ∙ sym (one-mul (val32 x))))
largest x (y ∷ ys) = choose (largest y ys)
  where
    choose : Largest (y ∷ ys) → Largest (x ∷ y ∷ ys)
    choose r = go (leb (val32 x) v) (leb→le (val32 x) v) (nleb→lt (val32 x) v)
      where
        v : ℕ
        v = val32 (get_or (y ∷ ys) r.0 nan)

        both : (w : ℕ) → val32 x ≤ w → v ≤ w → exact_sum 0 (x ∷ y ∷ ys) ≤ suc (suc (length ys)) * w
        both w h k = rw (exact_cons x (y ∷ ys)) (one_more_lem (val32 x) (exact_sum 0 (y ∷ ys)) (suc (length ys)) w h (le_trans r.2 (mul-le-mul_left (suc (length ys)) k)))

        go : (b : Bool) → (T b → val32 x ≤ v) → (T (not b) → v < val32 x) → Largest (x ∷ y ∷ ys)
        go true f g = (suc r.0, omega (arith, r.1), both v (f tt) (le_of_eq refl))
        go false f g = (0, omega arith, both (val32 x) (le_of_eq refl) (le_of_lt (g tt)))

-- ---- parts of such lists: a part of ys that starts at k, as long as xs
pub at_most-drop : (K k : ℕ) (xs : List Float) → AllAtMost K xs → AllAtMost K (drop k xs)
at_most-drop K zero xs n = n
at_most-drop K (suc k) [] n = tt
at_most-drop K (suc k) (x ∷ xs) n = at_most-drop K k xs n.1

pub at_most-take : (K k : ℕ) (xs : List Float) → AllAtMost K xs → AllAtMost K (take k xs)
at_most-take K zero xs n = tt
at_most-take K (suc k) [] n = tt
at_most-take K (suc k) (x ∷ xs) n = (n.0, at_most-take K k xs n.1)

-- ---- from the order of floats to units and back
pub le→units : (x y : Float) → T (fits binary32 x) → T (fits binary32 y) → T (clear x) → T (clear y) → T (finite x) → T (finite y) → T (le x y) → val32 x ≤ val32 y
le→units x y t u s r p q h = le_of_mul-le-mul_right {k = den x * den y} (cross (num x) (num y) (den x) (den y) (val32 x) (val32 y) (2 ^ 149) (units-exact x t p) (units-exact y u q) (flat x y s r p q (le→Le x y p q h))) (mul-pos (den_pos x) (den_pos y))
  where
    flat : (x y : Float) → T (clear x) → T (clear y) → T (finite x) → T (finite y) → Le x y → num x * den y ≤ num y * den x
    flat nan y s r p q h = absurd p
    flat (inf t) y s r p q h = absurd p
    flat (fin true m e) y s r p q h = absurd s
    flat (fin false m e) nan s r p q h = absurd q
    flat (fin false m e) (inf t) s r p q h = absurd q
    flat (fin false m e) (fin true n d) s r p q h = absurd r
    flat (fin false m e) (fin false n d) s r p q h = omega arith

    cross : (a b c d X Y U : ℕ) → a * U ≡ X * c → b * U ≡ Y * d → a * d ≤ b * c → X * (c * d) ≤ Y * (c * d)
    cross a b c d X Y U e f h = omega (arith, ap (λ (z : ℕ). z * d) e, ap (λ (z : ℕ). z * c) f, mul-le-mul_right U h)

-- a value of at least one unit is above zero
pub units-positive : (x : Float) → T (clear x) → T (finite x) → 0 < val32 x → T (positive x)
units-positive nan s p h = absurd p
units-positive (inf t) s p h = absurd p
units-positive (fin true m e) s p h = absurd s
units-positive (fin false zero e) s p h = absurd (none (ap (λ (z : ℕ). z * 2 ^ 149 / down e) (zero-mul (up e)) ∙ ap (λ (z : ℕ). z / down e) (zero-mul (2 ^ 149)) ∙ zero-div (down e)) h)
  where
    none : {n : ℕ} → n ≡ 0 → 0 < n → ⊥
    none {n} e h = omega arith
units-positive (fin false (suc m) e) s p h = lt→ltb 0 (suc m) (omega arith)
