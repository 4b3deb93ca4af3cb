-- The laws of binary32's operations on finite values, as laws of `le`. Each operation keeps or turns the order in each operand, and no result passes a value that an exact result does not pass.
use Rattle.std.specs.Prelude.{◌≡◌, refl, ℕ, ◌+◌, ◌*◌, ◌≤◌, true, false, T, Float}
use Rattle.std.proofs.Common.{sym, ap, ◌∙◌, mul_comm, mul_assoc, mul_left_comm, add-mul, mul-add, zero-mul}
use Rattle.std.proofs.Math.Nat.{le_dest, mul-le-mul_right}
use native.Mathlib.Omega.{arith}
use Rattle.std.specs.Float.{nan, inf, fin}
use Rattle.std.specs.Float.Ieee.{binary32, add, sub, mul, div, le, fits}
use Rattle.std.specs.Float.Ieee.Scale.{finite}
use Rattle.std.specs.Float.Ieee.Positive.{den, positive, positive-finite, above_of_le}
pub use Rattle.definition.specs.Floats.{zeroᶠ, oneᶠ}
use Rattle.float_laws.specs.Order.{plus, minus, Below, Le, le→Le}
use Rattle.float_laws.specs.Rounded.{round-le, at_least, at-most}
use Rattle.float_laws.specs.Ops.{add_is, sub_is, mul_is, mul_comm_at, div_is}

-- ---- fractions
add-below : (p n c p' n' c' q o d q' o' d' : ℕ) → Below p n c p' n' c' → Below q o d q' o' d' → Below (p * d + q * c) (n * d + o * c) (c * d) (p' * d' + q' * c') (n' * d' + o' * c') (c' * d')
add-below p n c p' n' c' q o d q' o' d' h k =
    simp (add-mul, mul_assoc, mul_comm, mul_left_comm)
    (omega (arith, simp (add-mul, mul_assoc, mul_comm, mul_left_comm) at (mul-le-mul_right (d * d') h), simp (add-mul, mul_assoc, mul_comm, mul_left_comm) at (mul-le-mul_right (c * c') k)))

-- u ≤ v and n ≤ p: u * p + v * n ≤ v * p + u * n
turn : (u v n p : ℕ) → u ≤ v → n ≤ p → u * p + v * n ≤ v * p + u * n
turn u v n p h k =
    let (j, e) = le_dest k in
    let a : u * p ≡ u * n + u * j = ap (λ (z : ℕ). u * z) (sym e) ∙ mul-add u n j in
    let b : v * p ≡ v * n + v * j = ap (λ (z : ℕ). v * z) (sym e) ∙ mul-add v n j in
    let g : u * j ≤ v * j = mul-le-mul_right j h in
    omega arith

mul-below : (p n c p' n' c' q o d : ℕ) → Below p n c p' n' c' → o ≤ q → Below (p * q + n * o) (p * o + n * q) (c * d) (p' * q + n' * o) (p' * o + n' * q) (c' * d)
mul-below p n c p' n' c' q o d h k =
    simp (add-mul, mul_assoc, mul_comm, mul_left_comm)
    (omega (arith, simp (add-mul, mul_assoc, mul_comm, mul_left_comm) at (mul-le-mul_right d (turn (p * c' + n' * c) (p' * c + n * c') o q h k))))

div_below : (p n c p' n' c' q d : ℕ) → Below p n c p' n' c' → Below (p * d) (n * d) (q * c) (p' * d) (n' * d) (q * c')
div_below p n c p' n' c' q d h =
    simp (add-mul, mul_assoc, mul_comm, mul_left_comm) (omega (arith, simp (add-mul, mul_assoc, mul_comm, mul_left_comm) at (mul-le-mul_right (q * d) h)))

div-above : (p n c q d q' d' : ℕ) → n ≤ p → q * d' ≤ q' * d → Below (p * d') (n * d') (q' * c) (p * d) (n * d) (q * c)
div-above p n c q d q' d' k h =
    simp (add-mul, mul_assoc, mul_comm, mul_left_comm) (omega (arith, simp (add-mul, mul_assoc, mul_comm, mul_left_comm) at (mul-le-mul_right c (turn (q * d') (q' * d) n p h k))))

-- ---- signs
no_minus : (x : Float) → T (positive x) → minus x ≡ 0
no_minus nan p = absurd p
no_minus (inf s) p = absurd p
no_minus (fin true m e) p = absurd p
no_minus (fin false m e) p = refl

at-least-zero : (x : Float) → T (finite x) → T (le zeroᶠ x) → minus x ≤ plus x
at-least-zero x p h = omega (arith, le→Le zeroᶠ x tt p h)

at-most-zero : (x : Float) → T (finite x) → T (le x zeroᶠ) → plus x ≤ minus x
at-most-zero x p h = omega (arith, le→Le x zeroᶠ p tt h)

-- ---- each operation keeps or turns the order
pub add_mono : (x x' y y' : Float) → T (finite x) → T (finite x') → T (finite y) → T (finite y') → T (le x x') → T (le y y') → T (le (add binary32 x y) (add binary32 x' y'))
add_mono x x' y y' p p' q q' h k =
    round-le binary32 (add binary32 x y) (add binary32 x' y') _ _ _ _ _ _ (add_is binary32 x y p q) (add_is binary32 x' y' p' q')
    (add-below (plus x) (minus x) (den x) (plus x') (minus x') (den x') (plus y) (minus y) (den y) (plus y') (minus y') (den y') (le→Le x x' p p' h) (le→Le y y' q q' k))

pub sub_mono : (x x' y y' : Float) → T (finite x) → T (finite x') → T (finite y) → T (finite y') → T (le x x') → T (le y' y) → T (le (sub binary32 x y) (sub binary32 x' y'))
sub_mono x x' y y' p p' q q' h k =
    round-le binary32 (sub binary32 x y) (sub binary32 x' y') _ _ _ _ _ _ (sub_is binary32 x y p q) (sub_is binary32 x' y' p' q')
    (add-below (plus x) (minus x) (den x) (plus x') (minus x') (den x') (minus y) (plus y) (den y) (minus y') (plus y') (den y') (le→Le x x' p p' h) (omega (arith, le→Le y' y q' q k)))

pub mul_mono_l : (x x' y : Float) → T (finite x) → T (finite x') → T (finite y) → T (le x x') → T (le zeroᶠ y) → T (le (mul binary32 x y) (mul binary32 x' y))
mul_mono_l x x' y p p' q h k =
    round-le binary32 (mul binary32 x y) (mul binary32 x' y) _ _ _ _ _ _ (mul_is binary32 x y p q) (mul_is binary32 x' y p' q)
    (mul-below (plus x) (minus x) (den x) (plus x') (minus x') (den x') (plus y) (minus y) (den y) (le→Le x x' p p' h) (at-least-zero y q k))

pub mul_mono_r : (x y y' : Float) → T (finite x) → T (finite y) → T (finite y') → T (le zeroᶠ x) → T (le y y') → T (le (mul binary32 x y) (mul binary32 x y'))
mul_mono_r x y y' p q q' h k = rw (mul_comm_at binary32 x y, mul_comm_at binary32 x y') (mul_mono_l y y' x q q' p k h)

pub mul_anti_l : (x x' y : Float) → T (finite x) → T (finite x') → T (finite y) → T (le x x') → T (le y zeroᶠ) → T (le (mul binary32 x' y) (mul binary32 x y))
mul_anti_l x x' y p p' q h k =
    round-le binary32 (mul binary32 x' y) (mul binary32 x y) _ _ _ _ _ _ (mul_is binary32 x' y p' q) (mul_is binary32 x y p q)
    (flip (plus x) (minus x) (den x) (plus x') (minus x') (den x') (plus y) (minus y) (den y) (le→Le x x' p p' h) (at-most-zero y q k))
  where
    flip : (p n c p' n' c' q o d : ℕ) → Below p n c p' n' c' → q ≤ o → Below (p' * q + n' * o) (p' * o + n' * q) (c' * d) (p * q + n * o) (p * o + n * q) (c * d)
    flip p n c p' n' c' q o d h k =
        simp (add-mul, mul_assoc, mul_comm, mul_left_comm)
        (omega (arith, simp (add-mul, mul_assoc, mul_comm, mul_left_comm) at (mul-le-mul_right d (turn (p * c' + n' * c) (p' * c + n * c') q o h k))))

pub mul_anti_r : (x y y' : Float) → T (finite x) → T (finite y) → T (finite y') → T (le x zeroᶠ) → T (le y y') → T (le (mul binary32 x y') (mul binary32 x y))
mul_anti_r x y y' p q q' h k = rw (mul_comm_at binary32 x y, mul_comm_at binary32 x y') (mul_anti_l y y' x q q' p k h)

pub div_mono : (x x' y : Float) → T (finite x) → T (finite x') → T (positive y) → T (le x x') → T (le (div binary32 x y) (div binary32 x' y))
div_mono x x' y p p' q h =
    round-le binary32 (div binary32 x y) (div binary32 x' y) _ _ _ _ _ _ (div_is binary32 x y p q) (div_is binary32 x' y p' q)
    (div_below (plus x) (minus x) (den x) (plus x') (minus x') (den x') (plus y) (den y) (le→Le x x' p p' h))

-- two divisors above zero, by their parts
cut : (q d q' d' o o' : ℕ) → o ≡ 0 → o' ≡ 0 → Below q o d q' o' d' → q * d' ≤ q' * d
cut q d q' d' o o' e e' h =
    let a : o * d' ≡ 0 = rw e (zero-mul d') in
    let b : o' * d ≡ 0 = rw e' (zero-mul d) in
    omega arith

pub div_anti : (x y y' : Float) → T (finite x) → T (positive y) → T (positive y') → T (le zeroᶠ x) → T (le y y') → T (le (div binary32 x y') (div binary32 x y))
div_anti x y y' p q q' h k =
    round-le binary32 (div binary32 x y') (div binary32 x y) _ _ _ _ _ _ (div_is binary32 x y' p q') (div_is binary32 x y p q)
    (div-above (plus x) (minus x) (den x) (plus y) (den y) (plus y') (den y') (at-least-zero x p h) (cut (plus y) (den y) (plus y') (den y') (minus y) (minus y') (no_minus y q) (no_minus y' q') (le→Le y y' (positive-finite y q) (positive-finite y' q') k)))

-- ---- results that an exact value bounds
pub add_grows : (x y : Float) → T (fits binary32 x) → T (finite x) → T (finite y) → T (le zeroᶠ y) → T (le x (add binary32 x y))
add_grows x y t p q h =
    at_least binary32 x (add binary32 x y) _ _ _ t p (add_is binary32 x y p q) (go (plus x) (minus x) (den x) (plus y) (minus y) (den y) (at-least-zero y q h))
  where
    go : (p n c q o d : ℕ) → o ≤ q → Below p n c (p * d + q * c) (n * d + o * c) (c * d)
    go p n c q o d h = simp (add-mul, mul_assoc, mul_comm, mul_left_comm) (omega (arith, simp (mul_assoc, mul_comm, mul_left_comm) at (mul-le-mul_right (c * c) h)))

pub sub-at-most-zero : (x y : Float) → T (finite x) → T (finite y) → T (le x y) → T (le (sub binary32 x y) zeroᶠ)
sub-at-most-zero x y p q h = at-most binary32 zeroᶠ (sub binary32 x y) _ _ _ (unfold fits in tt) tt (sub_is binary32 x y p q) (omega (arith, le→Le x y p q h))

pub div-at-most-one : (x y : Float) → T (finite x) → T (positive y) → T (le x y) → T (le (div binary32 x y) oneᶠ)
div-at-most-one x y p q h =
    at-most binary32 oneᶠ (div binary32 x y) _ _ _ (unfold fits in tt) tt (div_is binary32 x y p q) (go (le→Le x y p (positive-finite y q) h))
  where
    go : Le x y → Below (plus x * den y) (minus x * den y) (plus y * den x) 1 0 1
    go g = omega arith

pub div-at-least-zero : (x y : Float) → T (finite x) → T (positive y) → T (le zeroᶠ x) → T (le zeroᶠ (div binary32 x y))
div-at-least-zero x y p q h =
    at_least binary32 zeroᶠ (div binary32 x y) _ _ _ (unfold fits in tt) tt (div_is binary32 x y p q) (omega (arith, mul-le-mul_right (den y) (at-least-zero x p h)))

-- x * y ≤ x for 0 ≤ x and y ≤ 1
pub mul-at-most-left : (x y : Float) → T (fits binary32 x) → T (finite x) → T (finite y) → T (le zeroᶠ x) → T (le y oneᶠ) → T (le (mul binary32 x y) x)
mul-at-most-left x y t p q h k =
    at-most binary32 x (mul binary32 x y) _ _ _ t p (mul_is binary32 x y p q) (go (plus x) (minus x) (den x) (plus y) (minus y) (den y) (at-least-zero x p h) (omega (arith, le→Le y oneᶠ q tt k)))
  where
    go : (p n c q o d : ℕ) → n ≤ p → q ≤ d + o → Below (p * q + n * o) (p * o + n * q) (c * d) p n c
    go p n c q o d h k = simp (add-mul, mul-add, mul_assoc, mul_comm, mul_left_comm) (omega (arith, simp (add-mul, mul-add, mul_assoc, mul_comm, mul_left_comm) at (mul-le-mul_right c (turn q (d + o) n p k h))))

-- a quotient that is not above zero rises with its divisor
pub div_rise : (x y y' : Float) → T (finite x) → T (positive y) → T (positive y') → T (le x zeroᶠ) → T (le y y') → T (le (div binary32 x y) (div binary32 x y'))
div_rise x y y' p q q' h k =
    round-le binary32 (div binary32 x y) (div binary32 x y') _ _ _ _ _ _ (div_is binary32 x y p q) (div_is binary32 x y' p q')
    (go (plus x) (minus x) (den x) (plus y) (den y) (plus y') (den y') (at-most-zero x p h) (cut (plus y) (den y) (plus y') (den y') (minus y) (minus y') (no_minus y q) (no_minus y' q') (le→Le y y' (positive-finite y q) (positive-finite y' q') k)))
  where
    go : (p n c q d q' d' : ℕ) → p ≤ n → q * d' ≤ q' * d → Below (p * d) (n * d) (q * c) (p * d') (n * d') (q' * c)
    go p n c q d q' d' k h =
        simp (add-mul, mul_assoc, mul_comm, mul_left_comm) (omega (arith, simp (add-mul, mul_assoc, mul_comm, mul_left_comm) at (mul-le-mul_right c (turn (q * d') (q' * d) p n h k))))

pub add_grows_r : (x y : Float) → T (fits binary32 y) → T (finite x) → T (finite y) → T (le zeroᶠ x) → T (le y (add binary32 x y))
add_grows_r x y t p q h =
    at_least binary32 y (add binary32 x y) _ _ _ t q (add_is binary32 x y p q) (go (plus y) (minus y) (den y) (plus x) (minus x) (den x) (at-least-zero x p h))
  where
    go : (p n c q o d : ℕ) → o ≤ q → Below p n c (q * c + p * d) (o * c + n * d) (d * c)
    go p n c q o d h = simp (add-mul, mul_assoc, mul_comm, mul_left_comm) (omega (arith, simp (mul_assoc, mul_comm, mul_left_comm) at (mul-le-mul_right (c * c) h)))

pub positive_of_le : (b x : Float) → T (positive b) → T (finite x) → T (le b x) → T (positive x)
positive_of_le b nan p q h = absurd q
positive_of_le b (inf s) p q h = absurd q
positive_of_le b (fin s m e) p q h = above_of_le b (fin s m e) p h
