-- Residuals, entry by entry, and a float without its sign by two tests.
use Rattle.std.specs.Prelude.{◌≡◌, refl, Bool, true, false, not, List, [], ◌∷◌, ℕ, zero, suc, ◌+◌, ◌*◌, ◌≤◌, ◌<◌, T, ltb, eqb, length, drop, get_or, Float}
use Rattle.std.proofs.Math.Path.{sym, ap}
use Rattle.std.proofs.Common.{◌∙◌, zero-mul, mul-le-mul_right, add-one, arith, eqb→eq, lt→ltb, ltb→lt, nltb→le, T_not, drop_of_length-le, drop-cons}
use Rattle.std.specs.Float.{nan, inf, fin, binary32}
use Rattle.std.specs.Float.Ieee.{lt, eq, neg, fits, up, down, level}
use Rattle.std.specs.Float.Ieee.Fits.{up_pos, and_l}
use Rattle.std.specs.Float.Ieee.Back.{whole_unique}
use Rattle.std.specs.Float.Ieee.Bits.{is_true}
use Rattle.definition.specs.Floats.{zeroᶠ, maxᶠ, abs}
use Rattle.definition.specs.Vectors.{Message, binary}
use Rattle.definition.specs.Directions.{MessageGraph, direction_at, message_at}
use Rattle.definition.specs.Messages.{abs_log_ratio, pair_residual, vector_residual, residual}

-- ---- without its sign

-- what is not 0 by its digits is not 0
some-digits : (m a : ℕ) → 0 < a → suc m * a * 1 ≡ 0 → ⊥
some-digits m a h e = let g : 1 * a ≤ suc m * a = mul-le-mul_right a (one-le m) in omega arith
  where
    one-le : (m : ℕ) → 1 ≤ suc m
    one-le m = omega arith

nothing : (d : ℕ) → 0 * 1 * d ≡ 0
nothing d = zero-mul d

pub abs-zero : (x : Float) → T (fits binary32 x) → T (eq x zeroᶠ) → zeroᶠ ≡ abs x
unfolding abs eq
abs-zero nan f e = absurd e
abs-zero (inf s) f e = absurd e
abs-zero (fin s zero k) f e =
    whole_unique binary32 zeroᶠ (fin false 0 k) false 0 (unfold fits in tt) (unfold fits in f) (refl, refl) (refl, ap (λ (n : ℕ). n * 1) (zero-mul (up k)) ∙ sym (zero-mul (down k)))
abs-zero (fin s (suc m) k) f e =
    absurd (some-digits m (up k) (up_pos k) (eqb→eq (suc m * up k * 1) (0 * 1 * down k) (and_l (eqb (suc m * up k * 1) (0 * 1 * down k)) _ e) ∙ nothing (down k)))

pub abs-below : (x : Float) → T (lt x zeroᶠ) → neg x ≡ abs x
unfolding abs lt neg
abs-below nan e = absurd e
abs-below (inf true) e = refl
abs-below (inf false) e = absurd e
abs-below (fin true m k) e = refl
abs-below (fin false m k) e = absurd (let h = ltb→lt (m * up k * 1) (0 * 1 * down k) e in let z : ⊥ = omega (arith, nothing (down k)) in z)

pub abs-above : (x : Float) → T (not (eq x zeroᶠ)) → T (not (lt x zeroᶠ)) → x ≡ abs x
unfolding abs lt eq
abs-above nan e f = refl
abs-above (inf true) e f = absurd f
abs-above (inf false) e f = refl
abs-above (fin false m k) e f = refl
abs-above (fin true m k) e f =
    let h = nltb→le 0 (m * up k * 1 + 0 * 1 * down k) f in
    let p : m * up k * 1 ≡ 0 = omega arith in
    absurd (T_not (level true (m * up k * 1) false (0 * 1 * down k)) e (zeros (m * up k * 1) (0 * 1 * down k) p (nothing (down k))))
  where
    zeros : (a b : ℕ) → a ≡ 0 → b ≡ 0 → T (level true a false b)
    zeros a b p q = rw (p, q) tt

-- ---- by the length of the message

unfoldable pub residual_of : Message → Message → Float
residual_of m o = elim (ltb 2 (length m)) [ true ↦ vector_residual (inf true) m o | false ↦ pair_residual m o ]

-- as long as its direction says
pub residual-is : (t : MessageGraph) (ms os : List Message) (d : ℕ) → length (message_at d ms) ≡ (direction_at t d).message_length → residual_of (message_at d ms) (message_at d os) ≡ residual t ms os d
unfolding residual residual_of
residual-is t ms os d e = ap (λ (n : ℕ). elim (ltb 2 n) as (λ (b : Bool). Float) [ true ↦ vector_residual (inf true) (message_at d ms) (message_at d os) | false ↦ pair_residual (message_at d ms) (message_at d os) ]) e

pub residual-long : (m o : Message) → 2 < length m → vector_residual (inf true) m o ≡ residual_of m o
unfolding residual_of
residual-long m o h = sym (ap (λ (b : Bool). elim b as (λ (c : Bool). Float) [ true ↦ vector_residual (inf true) m o | false ↦ pair_residual m o ]) (is_true (ltb 2 (length m)) (lt→ltb 2 (length m) h)))

pub residual-two : (m o : Message) → length m ≡ 2 → length m ≡ length o → pair_residual (binary (get_or m 0 nan) (get_or m 1 nan)) (binary (get_or o 0 nan) (get_or o 1 nan)) ≡ residual_of m o
unfolding residual_of
residual-two [] o h g = absurd (let z : ⊥ = omega arith in z)
residual-two (x ∷ []) o h g = absurd (let z : ⊥ = omega arith in z)
residual-two (x ∷ y ∷ z ∷ m) o h g = absurd (let z : ⊥ = omega arith in z)
residual-two (x ∷ y ∷ []) [] h g = absurd (let z : ⊥ = omega arith in z)
residual-two (x ∷ y ∷ []) (a ∷ []) h g = absurd (let z : ⊥ = omega arith in z)
residual-two (x ∷ y ∷ []) (a ∷ b ∷ d ∷ o) h g = absurd (let z : ⊥ = omega arith in z)
residual-two (x ∷ y ∷ []) (a ∷ b ∷ []) h g = refl

-- ---- of a vector: what is left, from the largest so far, makes the whole

pub vector_turn :
    (m o : List Float) (i : ℕ) (a x r : Float) →
    i < length m → length m ≡ length o → x ≡ abs_log_ratio (get_or m i nan) (get_or o i nan) → r ≡ maxᶠ a x → vector_residual r (drop (i + 1) m) (drop (i + 1) o) ≡ vector_residual a (drop i m) (drop i o)
unfolding vector_residual
vector_turn m o i a x r h l e f =
    let g : i < length o = omega arith in
    ap (λ (n : ℕ). vector_residual r (drop n m) (drop n o)) (add-one i)
    ∙ ap (λ (z : Float). vector_residual z (drop (suc i) m) (drop (suc i) o)) (f ∙ ap (maxᶠ a) e)
    ∙ sym (ap (λ (u : List Float). vector_residual a u (drop i o)) (drop-cons m i nan h) ∙ ap (λ (u : List Float). vector_residual a (get_or m i nan ∷ drop (suc i) m) u) (drop-cons o i nan g))

pub vector_all : (m o : List Float) (i : ℕ) (a : Float) → length m ≤ i → vector_residual a (drop i m) (drop i o) ≡ a
unfolding vector_residual
vector_all m o i a h = ap (λ (u : List Float). vector_residual a u (drop i o)) (drop_of_length-le m h)
