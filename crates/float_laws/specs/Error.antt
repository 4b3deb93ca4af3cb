-- How far a rounding moves a value, in units of 2 ^ -149: by at most one part in 2 ^ 24, and where the fraction is no whole number of units by half a unit more.
-- So a sum of n entries is within n parts in 2 ^ 23 of the exact sum.
use Rattle.std.specs.Prelude.{◌≡◌, refl, ◌⊎◌, Bool, true, false, not, List, [], ◌∷◌, ℤ, pos, negsuc, T, leb, eqb, Float}
use Rattle.std.proofs.Common.{sym, ap, ◌∙◌, subst, inl, inr, mod-lt, div-add-mod', mul_comm, mul_assoc, mul_right_comm, mul-one, add-mul, mul-le-mul_right, le_of_mul-le-mul_right, lt_of_mul-lt-mul_right, mul-le-mul_left, mul-pos, mul-div_cancel, suc-mul, mul-suc, zero-mul, le-div_iff_mul-le, arith, leb→le, eqb→eq, pow-add, pow_pos}
use Prim.Native.Nat.{ℕ, zero, suc, ◌+◌, ◌-◌, ◌*◌, ◌/◌, ◌%◌, ◌^◌, ◌≤◌, ◌<◌, compare, Ordering}
use Rattle.std.proofs.Math.Dec.{is_le, compare_is_eq, nleb→lt, eqb_refl}
use Rattle.std.proofs.Math.Arith.{lt_of_le-ne}
use Rattle.std.specs.Float.{nan, inf, fin, binary32}
use Rattle.std.specs.Float.Ieee.{up, down, size, nearest, round, add, fits}
use Rattle.std.specs.Float.Ieee.Digits.{size_reaches}
use Rattle.std.specs.Float.Ieee.Fits.{down_pos}
use Rattle.std.specs.Float.Ieee.Exact.{HasValue}
use Rattle.std.specs.Float.Ieee.Nearest.{closest}
use Rattle.std.specs.Float.Ieee.Order.{drop, kept}
use Rattle.std.specs.Float.Ieee.Scale.{grid, finite, round_val, round_under, round_same}
use Rattle.std.specs.Float.Ieee.Positive.{num, den, den_pos}
use Rattle.float_laws.specs.Rounded.{clear, parts, pow_anti}

-- ---- the nearest whole number to n / u is at most half away
abbrev Cmp : Ordering → ℕ → ℕ → Type 0
Cmp Ordering.lt a b = a < b
Cmp Ordering.eq a b = a ≡ b
Cmp Ordering.gt a b = b < a

cmp : (a b : ℕ) → Cmp (compare a b) a b
cmp a b = go (compare a b) (leb→le a b) (nleb→lt a b) (eqb→eq a b) (λ (e : a ≡ b). subst (λ (x : ℕ). T (eqb a x)) e (eqb_refl a))
  where
    go : (o : Ordering) → (T (is_le o) → a ≤ b) → (T (not (is_le o)) → b < a) → (T (compare_is_eq o) → a ≡ b) → (a ≡ b → T (compare_is_eq o)) → Cmp o a b
    go Ordering.lt h k e n = lt_of_le-ne (h tt) n
    go Ordering.eq h k e n = e tt
    go Ordering.gt h k e n = k tt

by_case : (o : Ordering) (q r u n : ℕ) → Cmp o (r * 2) u → q * u + r ≡ n → r < u → (nearest q o * u * 2 ≤ n * 2 + u) × (n * 2 ≤ nearest q o * u * 2 + u)
by_case Ordering.lt q r u n c e l = (omega arith, omega arith)
by_case Ordering.eq q r u n c e l =
    let a : (q + q % 2) * u ≡ q * u + q % 2 * u = add-mul q (q % 2) u in
    let b : q % 2 * u ≤ 1 * u = mul-le-mul_right u (bit q) in
    (omega arith, omega arith)
  where
    bit : (q : ℕ) → q % 2 ≤ 1
    bit q = omega arith
by_case Ordering.gt q r u n c e l = let a : suc q * u ≡ q * u + u = suc-mul q u in (omega arith, omega arith)

pub closest_near : (n u : ℕ) → 0 < u → (closest n u * u * 2 ≤ n * 2 + u) × (n * 2 ≤ closest n u * u * 2 + u)
closest_near n u U = by_case (compare (n % u * 2) u) (n / u) (n % u) u n (cmp (n % u * 2) u) (div-add-mod' n u) (mod-lt n U)

-- ---- the grid: a / c in units, rounded
-- where k digits are dropped, u = c * 2 ^ k is at most one part in 2 ^ 23 of n, or k = 0
unit_small : (n c : ℕ) → 0 < c → c * 2 ^ drop 24 n c * 2 ^ 23 ≤ n + c * 2 ^ 23
unit_small n c C = go (drop 24 n c) refl
  where
    go : (k : ℕ) → drop 24 n c ≡ k → c * 2 ^ k * 2 ^ 23 ≤ n + c * 2 ^ 23
    go zero e = let a : c * 2 ^ 0 ≡ c = mul-one c in omega arith
    go (suc k) e =
        let z : 23 + suc k < size (n / c) = omega arith in
        let a : 2 ^ (23 + suc k) * c ≤ n = (le-div_iff_mul-le C).0 (size_reaches (n / c) (23 + suc k) z) in
        let b : c * 2 ^ suc k * 2 ^ 23 ≡ 2 ^ (23 + suc k) * c = mul_assoc c (2 ^ suc k) (2 ^ 23) ∙ mul_comm c (2 ^ suc k * 2 ^ 23) ∙ ap (λ (z : ℕ). z * c) (mul_comm (2 ^ suc k) (2 ^ 23) ∙ sym (pow-add 2 23 (suc k))) in
        omega arith

regroup : (q k c : ℕ) → q * k * c ≡ q * (c * k)
regroup q k c = mul_assoc q k c ∙ ap (λ (z : ℕ). q * z) (mul_comm k c)

pub grid_near : (a c : ℕ) → 0 < c
    → (grid binary32 a c * c * 2 ^ 24 ≤ a * 2 ^ 149 * 2 ^ 24 + a * 2 ^ 149 + c * 2 ^ 23) × (a * 2 ^ 149 * 2 ^ 24 ≤ grid binary32 a c * c * 2 ^ 24 + a * 2 ^ 149 + c * 2 ^ 23)
grid_near a c C = finish (a * 2 ^ 149) refl
  where
    finish : (n : ℕ) → a * 2 ^ 149 ≡ n → (kept 24 n c * 2 ^ drop 24 n c * c * 2 ^ 24 ≤ n * 2 ^ 24 + n + c * 2 ^ 23) × (n * 2 ^ 24 ≤ kept 24 n c * 2 ^ drop 24 n c * c * 2 ^ 24 + n + c * 2 ^ 23)
    finish n e =
        let k = drop 24 n c in
        let u = c * 2 ^ k in
        let r = closest_near n u (mul-pos C (pow_pos k)) in
        let g : kept 24 n c * 2 ^ k * c ≡ closest n u * u = regroup (kept 24 n c) (2 ^ k) c in
        let s = unit_small n c C in
        (omega (arith, r.0, r.1), omega (arith, r.0, r.1))

-- ---- a value in units of 2 ^ -149: exact for what binary32 holds
abbrev pub val32 : Float → ℕ
val32 x = num x * 2 ^ 149 / den x

by-quotient : (a d t : ℕ) → 0 < d → a ≡ t * d → a / d ≡ t
by-quotient a d t D e = ap (λ (z : ℕ). z / d) e ∙ mul-div_cancel t D

pub value_units : (x : Float) (s : Bool) (g : ℕ) → HasValue x s g (2 ^ 149) → val32 x ≡ g
value_units nan s g h = absurd h
value_units (inf t) s g h = absurd h
value_units (fin t m e) s g h = by-quotient (m * up e * 2 ^ 149) (down e) g (down_pos e) h.1

-- what rounding makes of a / c
pub rounded_units : (x : Float) (a c : ℕ) → x ≡ round binary32 false a c → T (finite x) → val32 x ≡ grid binary32 a c
rounded_units x a c e w = ap val32 e ∙ value_units (round binary32 false a c) false (grid binary32 a c) (round_val binary32 a c (round_under binary32 a c (rw e at w)))

some-units : (s : Bool) (m : ℕ) (e : ℤ) → T (fits binary32 (fin s m e)) → (t : ℕ) × (m * up e * 2 ^ 149 ≡ t * down e)
unfolding fits
some-units s zero e t = (0, ap (λ (z : ℕ). z * 2 ^ 149) (zero-mul (up e)) ∙ zero-mul (2 ^ 149) ∙ sym (zero-mul (down e)))
some-units s (suc m) (pos k) t = (suc m * 2 ^ k * 2 ^ 149, sym (mul-one (suc m * 2 ^ k * 2 ^ 149)))
some-units s (suc m) (negsuc k) t =
    let j = 149 - suc k in
    let p = parts binary32 m (negsuc k) t in
    let l : suc k ≤ 149 = pow_anti (suc k) 149 p.1 in
    let e : j + suc k ≡ 149 = omega arith in
    let q : 2 ^ j * 2 ^ suc k ≡ 2 ^ 149 = sym (pow-add 2 j (suc k)) ∙ ap (λ (z : ℕ). 2 ^ z) e in
    (suc m * 1 * 2 ^ j, ap (λ (z : ℕ). suc m * 1 * z) (sym q) ∙ sym (mul_assoc (suc m * 1) (2 ^ j) (2 ^ suc k)))

pub units-exact : (x : Float) → T (fits binary32 x) → T (finite x) → num x * 2 ^ 149 ≡ val32 x * den x
units-exact nan t p = absurd p
units-exact (inf s) t p = absurd p
units-exact (fin s m e) t p =
    let u = some-units s m e t in
    u.1 ∙ ap (λ (z : ℕ). z * down e) (sym (by-quotient (m * up e * 2 ^ 149) (down e) u.0 (down_pos e) u.1))

-- ---- a sum, both terms with a clear sign
add-clear : (x y : Float) → T (clear x) → T (clear y) → T (finite x) → T (finite y) → add binary32 x y ≡ round binary32 false (num x * den y + num y * den x) (den x * den y)
unfolding add
add-clear nan y s t p q = absurd p
add-clear (inf u) y s t p q = absurd p
add-clear (fin true m e) y s t p q = absurd s
add-clear (fin false m e) nan s t p q = absurd q
add-clear (fin false m e) (inf u) s t p q = absurd q
add-clear (fin false m e) (fin true n d) s t p q = absurd t
add-clear (fin false m e) (fin false n d) s t p q = refl

cross : (a b c d X Y U : ℕ) → a * U ≡ X * c → b * U ≡ Y * d → (a * d + b * c) * U ≡ (X + Y) * (c * d)
cross a b c d X Y U p q =
    let l : a * d * U ≡ X * (c * d) = mul_right_comm a d U ∙ ap (λ (z : ℕ). z * d) p ∙ mul_assoc X c d in
    let r : b * c * U ≡ Y * (c * d) = mul_right_comm b c U ∙ ap (λ (z : ℕ). z * c) q ∙ mul_assoc Y d c ∙ ap (λ (z : ℕ). Y * z) (mul_comm d c) in
    let x : (a * d + b * c) * U ≡ a * d * U + b * c * U = add-mul (a * d) (b * c) U in
    let y : (X + Y) * (c * d) ≡ X * (c * d) + Y * (c * d) = add-mul X Y (c * d) in
    omega arith

pub add-units : (x y : Float) → T (fits binary32 x) → T (fits binary32 y) → T (clear x) → T (clear y) → T (finite x) → T (finite y) → add binary32 x y ≡ round binary32 false (val32 x + val32 y) (2 ^ 149)
add-units x y t u s r p q =
    add-clear x y s r p q
    ∙ round_same binary32 false (num x * den y + num y * den x) (den x * den y) (val32 x + val32 y) (2 ^ 149) (mul-pos (den_pos x) (den_pos y)) (pow_pos 149)
    (cross (num x) (num y) (den x) (den y) (val32 x) (val32 y) (2 ^ 149) (units-exact x t p) (units-exact y u q))

split : (n : ℕ) → (n < 2 ^ 23) ⊎ (2 ^ 23 ≤ n)
split n = go (leb (2 ^ 23) n) (leb→le (2 ^ 23) n) (nleb→lt (2 ^ 23) n)
  where
    go : (b : Bool) → (T b → 2 ^ 23 ≤ n) → (T (not b) → n < 2 ^ 23) → (n < 2 ^ 23) ⊎ (2 ^ 23 ≤ n)
    go true f g = inr (f tt)
    go false f g = inl (g tt)

-- with U taken off both sides: omega's numbers stay small
pub strip : (a b n U k l : ℕ) → 0 < U → a * U * k ≤ b * U * k + n * U + U * l → a * k ≤ b * k + n + l
strip a b n U k l p h = le_of_mul-le-mul_right {k = U} (omega arith) p

small_step : (G n : ℕ) → G * 2 ^ 24 ≤ n * 2 ^ 24 + n + 2 ^ 23 → G * 2 ^ 23 ≤ n * 2 ^ 23 + n
small_step G n h = elim (split n) [ inl l ↦ (let g : G < suc n = lt_of_mul-lt-mul_right (2 ^ 24) (omega arith) in omega arith) | inr l ↦ omega arith ]

small_step' : (G n : ℕ) → n * 2 ^ 24 ≤ G * 2 ^ 24 + n + 2 ^ 23 → n * 2 ^ 23 ≤ G * 2 ^ 23 + n
small_step' G n h = elim (split n) [ inl l ↦ (let g : n < suc G = lt_of_mul-lt-mul_right (2 ^ 24) (omega arith) in omega arith) | inr l ↦ omega arith ]

-- one part in 2 ^ 23 at most, either way
pub add_near : (x y : Float) → T (fits binary32 x) → T (fits binary32 y) → T (clear x) → T (clear y) → T (finite x) → T (finite y) → T (finite (add binary32 x y))
    → (val32 (add binary32 x y) * 2 ^ 23 ≤ (val32 x + val32 y) * 2 ^ 23 + (val32 x + val32 y)) × ((val32 x + val32 y) * 2 ^ 23 ≤ val32 (add binary32 x y) * 2 ^ 23 + (val32 x + val32 y))
add_near x y t u s r p q w =
    let n = val32 x + val32 y in
    let e = add-units x y t u s r p q in
    let G = grid binary32 n (2 ^ 149) in
    let g = rounded_units (add binary32 x y) n (2 ^ 149) e w in
    let b = grid_near n (2 ^ 149) (pow_pos 149) in
    (subst (λ (z : ℕ). z * 2 ^ 23 ≤ n * 2 ^ 23 + n) (sym g) (small_step G n (strip G n n (2 ^ 149) (2 ^ 24) (2 ^ 23) (pow_pos 149) b.0)), subst (λ (z : ℕ). n * 2 ^ 23 ≤ z * 2 ^ 23 + n) (sym g) (small_step' G n (strip n G n (2 ^ 149) (2 ^ 24) (2 ^ 23) (pow_pos 149) b.1)))

-- ---- a sum of a list: within k parts in 2 ^ 22 of the exact sum, k the number of entries added
abbrev pub exact_sum : ℕ → List Float → ℕ
exact_sum n [] = n
exact_sum n (x ∷ xs) = exact_sum (n + val32 x) xs

-- S is within k parts in 2 ^ 22 of A
pub record Near (k A S : ℕ) : Type 0 where
  pub over : S * 2 ^ 22 ≤ A * 2 ^ 22 + A * k
  pub under : A * 2 ^ 22 ≤ S * 2 ^ 22 + A * k

pub near_step : (k A S X R : ℕ) → k ≤ 2 ^ 22 → Near k A S → R * 2 ^ 23 ≤ (S + X) * 2 ^ 23 + (S + X) → (S + X) * 2 ^ 23 ≤ R * 2 ^ 23 + (S + X) → Near (suc k) (A + X) R
near_step k A S X R h i a b =
    let p = i.over in
    let q = i.under in
    let m : A * k ≤ A * 2 ^ 22 = mul-le-mul_left A h in
    let e : (A + X) * suc k ≡ A * k + A + (X * k + X) = mul-suc (A + X) k ∙ more in
    record { over = omega arith; under = omega arith }
  where
    more : (A + X) * k + (A + X) ≡ A * k + A + (X * k + X)
    more = let f : (A + X) * k ≡ A * k + X * k = add-mul A X k in omega arith
