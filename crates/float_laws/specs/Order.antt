-- The order of the floats, signed: a finite x is (plus x - minus x) / den x, and `le` is the order of these fractions. `le` is transitive, and reflexive but at `nan`.
-- What lies between two finite values is finite.
use Rattle.std.specs.Prelude.{◌≡◌, refl, ◌⊎◌, ℕ, ◌+◌, ◌*◌, ◌≤◌, ◌<◌, Bool, true, false, not, ◌&&◌, ◌||◌, T, leb, ltb, eqb, Float}
use Rattle.std.proofs.Common.{sym, inl, inr, le_of_eq, le_of_lt, eq-or-lt_of_le, eq-zero-or-pos, mul_comm, mul_assoc, mul_left_comm, add-mul, mul-le-mul_right, le_of_mul-le-mul_right, arith, leb→le, nltb→le, eqb→eq, ltb→lt, lt→ltb}
use Rattle.std.proofs.Math.Logic.{⊎_map}
use Rattle.std.proofs.Math.Dec.{nleb→lt}
use Rattle.std.specs.Float.Ieee.{nan, up, down, neg, lt, eq, le, is_nan}
use Rattle.std.specs.Float.{inf, fin}
use Rattle.std.specs.Float.Ieee.Fits.{and_l, and_r, and_i, eq→eqb}
use Rattle.std.specs.Float.Ieee.Scale.{finite}
use Rattle.std.specs.Float.Ieee.Positive.{den, den_pos}

-- ---- Bool
pub or_l : (a b : Bool) → T a → T (a || b)
or_l true b t = tt
or_l false b t = absurd t

pub or_r : (a b : Bool) → T b → T (a || b)
or_r true b t = tt
or_r false b t = t

pub or_split : (a b : Bool) → T (a || b) → T a ⊎ T b
or_split true b t = inl tt
or_split false b t = inr t

-- ---- a finite value as (plus - minus) / den
abbrev pub plus : Float → ℕ
plus nan = 0
plus (inf s) = 0
plus (fin true m e) = 0
plus (fin false m e) = m * up e

abbrev pub minus : Float → ℕ
minus nan = 0
minus (inf s) = 0
minus (fin true m e) = m * up e
minus (fin false m e) = 0

-- (p - n) / c ≤ (q - o) / d
abbrev pub Below : ℕ → ℕ → ℕ → ℕ → ℕ → ℕ → Type 0
Below p n c q o d = p * d + o * c ≤ q * c + n * d

abbrev pub Le : Float → Float → Type 0
Le x y = Below (plus x) (minus x) (den x) (plus y) (minus y) (den y)

-- ---- the four cases of the signs
pp→ : (a b x y : ℕ) → T (ltb a b || (eqb a b && true)) → a + 0 * x ≤ b + 0 * y
pp→ a b x y t = elim (or_split (ltb a b) (eqb a b && true) t) [ inl u ↦ omega (arith, ltb→lt a b u) | inr u ↦ omega (arith, eqb→eq a b (and_l (eqb a b) true u)) ]

pm→ : (a b x y : ℕ) → T (eqb a b && (false || eqb a 0)) → a + b ≤ 0 * x + 0 * y
pm→ a b x y t = omega (arith, eqb→eq a b (and_l (eqb a b) (eqb a 0) t), eqb→eq a 0 (and_r (eqb a b) (eqb a 0) t))

mm→ : (a b x y : ℕ) → T (ltb b a || (eqb a b && true)) → 0 * x + b ≤ 0 * y + a
mm→ a b x y t = elim (or_split (ltb b a) (eqb a b && true) t) [ inl u ↦ omega (arith, ltb→lt b a u) | inr u ↦ omega (arith, eqb→eq a b (and_l (eqb a b) true u)) ]

mp→ : (a b x y : ℕ) → 0 * x + 0 * y ≤ b + a
mp→ a b x y = omega arith

pub le→Le : (x y : Float) → T (finite x) → T (finite y) → T (le x y) → Le x y
unfolding le
le→Le nan y p q h = absurd p
le→Le (inf s) y p q h = absurd p
le→Le (fin s m e) nan p q h = absurd q
le→Le (fin s m e) (inf t) p q h = absurd q
le→Le (fin false m e) (fin false n d) p q h = pp→ (m * up e * down d) (n * up d * down e) (down e) (down d) h
le→Le (fin false m e) (fin true n d) p q h = pm→ (m * up e * down d) (n * up d * down e) (down e) (down d) h
le→Le (fin true m e) (fin false n d) p q h = mp→ (m * up e * down d) (n * up d * down e) (down d) (down e)
le→Le (fin true m e) (fin true n d) p q h = mm→ (m * up e * down d) (n * up d * down e) (down d) (down e) h

→pp : (a b x y : ℕ) → a + 0 * x ≤ b + 0 * y → T (ltb a b || (eqb a b && true))
→pp a b x y h = elim (eq-or-lt_of_le {n = a} {m = b} (omega arith)) [ inl p ↦ or_r (ltb a b) (eqb a b && true) (and_i (eqb a b) true (eq→eqb p) tt) | inr q ↦ or_l (ltb a b) (eqb a b && true) (lt→ltb a b q) ]

→pm : (a b x y : ℕ) → a + b ≤ 0 * x + 0 * y → T (eqb a b && (false || eqb a 0))
→pm a b x y h = and_i (eqb a b) (eqb a 0) (eq→eqb {a = a} {b = b} (omega arith)) (eq→eqb {a = a} {b = 0} (omega arith))

→mm : (a b x y : ℕ) → 0 * x + b ≤ 0 * y + a → T (ltb b a || (eqb a b && true))
→mm a b x y h = elim (eq-or-lt_of_le {n = b} {m = a} (omega arith)) [ inl p ↦ or_r (ltb b a) (eqb a b && true) (and_i (eqb a b) true (eq→eqb (sym p)) tt) | inr q ↦ or_l (ltb b a) (eqb a b && true) (lt→ltb b a q) ]

→mp : (a b : ℕ) → T (ltb 0 (a + b) || (eqb a b && (false || eqb a 0)))
→mp a b = elim (eq-zero-or-pos (a + b)) [ inl z ↦ or_r (ltb 0 (a + b)) (eqb a b && eqb a 0) (and_i (eqb a b) (eqb a 0) (eq→eqb {a = a} {b = b} (omega arith)) (eq→eqb {a = a} {b = 0} (omega arith))) | inr p ↦ or_l (ltb 0 (a + b)) (eqb a b && eqb a 0) (lt→ltb 0 (a + b) p) ]

pub Le→le : (x y : Float) → T (finite x) → T (finite y) → Le x y → T (le x y)
unfolding le
Le→le nan y p q h = absurd p
Le→le (inf s) y p q h = absurd p
Le→le (fin s m e) nan p q h = absurd q
Le→le (fin s m e) (inf t) p q h = absurd q
Le→le (fin false m e) (fin false n d) p q h = →pp (m * up e * down d) (n * up d * down e) (down e) (down d) h
Le→le (fin false m e) (fin true n d) p q h = →pm (m * up e * down d) (n * up d * down e) (down e) (down d) h
Le→le (fin true m e) (fin false n d) p q h = →mp (m * up e * down d) (n * up d * down e)
Le→le (fin true m e) (fin true n d) p q h = →mm (m * up e * down d) (n * up d * down e) (down d) (down e) h

-- ---- three fractions
pub below_trans : (p n c q o d r s e : ℕ) → 0 < d → Below p n c q o d → Below q o d r s e → Below p n c r s e
below_trans p n c q o d r s e D h k =
    let a : p * d * e + o * c * e ≤ q * c * e + n * d * e = simp (← add-mul) (mul-le-mul_right e h) in
    let b : q * e * c + s * d * c ≤ r * d * c + o * e * c = simp (← add-mul) (mul-le-mul_right c k) in
    let a' : p * (d * e) + o * (c * e) ≤ q * (c * e) + n * (d * e) = simp (← mul_assoc) a in
    let b' : q * (c * e) + s * (c * d) ≤ r * (c * d) + o * (c * e) = simp (mul_assoc, mul_comm, mul_left_comm) (simp (mul_assoc, mul_comm, mul_left_comm) at b) in
    let g : p * (d * e) + s * (c * d) ≤ r * (c * d) + n * (d * e) = omega arith in
    le_of_mul-le-mul_right {k = d} (simp (add-mul, mul_assoc, mul_comm, mul_left_comm) (simp (mul_assoc, mul_comm, mul_left_comm) at g)) D

-- ---- laws of `le`
pub le-refl-at : (x : Float) → T (not (is_nan x)) → T (le x x)
unfolding is_nan le
le-refl-at nan h = absurd h
le-refl-at (inf true) h = tt
le-refl-at (inf false) h = tt
le-refl-at (fin s m e) h = Le→le (fin s m e) (fin s m e) tt tt (le_of_eq refl)

pub finite_number : (x : Float) → T (finite x) → T (not (is_nan x))
unfolding is_nan
finite_number nan h = absurd h
finite_number (inf s) h = absurd h
finite_number (fin s m e) h = tt

pub le-number-l : (x y : Float) → T (le x y) → T (not (is_nan x))
unfolding is_nan le
le-number-l nan y h = absurd h
le-number-l (inf s) y h = tt
le-number-l (fin s m e) y h = tt

pub le-number-r : (x y : Float) → T (le x y) → T (not (is_nan y))
unfolding is_nan le
le-number-r nan nan h = h
le-number-r (inf s) nan h = h
le-number-r (fin s m e) nan h = h
le-number-r x (inf t) h = tt
le-number-r x (fin t n d) h = tt

pub le_trans_at : (x y z : Float) → T (le x y) → T (le y z) → T (le x z)
unfolding le
le_trans_at nan y z h k = absurd h
le_trans_at (inf false) nan z h k = absurd h
le_trans_at (inf false) (inf false) z h k = k
le_trans_at (inf false) (inf true) z h k = absurd h
le_trans_at (inf false) (fin t n d) z h k = absurd h
le_trans_at (inf true) nan z h k = absurd h
le_trans_at (inf true) (inf t) nan h k = absurd (unfold is_nan in le-number-r (inf t) nan k)
le_trans_at (inf true) (inf t) (inf false) h k = tt
le_trans_at (inf true) (inf t) (inf true) h k = tt
le_trans_at (inf true) (inf t) (fin u o f) h k = tt
le_trans_at (inf true) (fin t n d) nan h k = absurd k
le_trans_at (inf true) (fin t n d) (inf false) h k = tt
le_trans_at (inf true) (fin t n d) (inf true) h k = tt
le_trans_at (inf true) (fin t n d) (fin u o f) h k = tt
le_trans_at (fin s m e) nan z h k = absurd h
le_trans_at (fin s m e) (inf true) z h k = absurd h
le_trans_at (fin s m e) (inf false) nan h k = absurd k
le_trans_at (fin s m e) (inf false) (inf false) h k = tt
le_trans_at (fin s m e) (inf false) (inf true) h k = absurd k
le_trans_at (fin s m e) (inf false) (fin u o f) h k = absurd k
le_trans_at (fin s m e) (fin t n d) nan h k = absurd k
le_trans_at (fin s m e) (fin t n d) (inf false) h k = tt
le_trans_at (fin s m e) (fin t n d) (inf true) h k = absurd k
le_trans_at (fin s m e) (fin t n d) (fin u o f) h k =
    let x = fin s m e in
    let y = fin t n d in
    let z = fin u o f in
    Le→le x z tt tt (below_trans (plus x) (minus x) (den x) (plus y) (minus y) (den y) (plus z) (minus z) (den z) (den_pos y) (le→Le x y tt tt h) (le→Le y z tt tt k))

pub le-neg : (x y : Float) → T (le x y) → T (le (neg y) (neg x))
unfolding le neg
le-neg nan y h = absurd h
le-neg (inf true) nan h = absurd h
le-neg (inf true) (inf true) h = tt
le-neg (inf true) (inf false) h = tt
le-neg (inf true) (fin t n d) h = tt
le-neg (inf false) nan h = absurd h
le-neg (inf false) (inf true) h = absurd h
le-neg (inf false) (inf false) h = tt
le-neg (inf false) (fin t n d) h = absurd h
le-neg (fin s m e) nan h = absurd h
le-neg (fin s m e) (inf true) h = absurd h
le-neg (fin s m e) (inf false) h = tt
le-neg (fin false m e) (fin false n d) h = let k = le→Le (fin false m e) (fin false n d) tt tt h in Le→le (fin true n d) (fin true m e) tt tt (omega arith)
le-neg (fin false m e) (fin true n d) h = let k = le→Le (fin false m e) (fin true n d) tt tt h in Le→le (fin false n d) (fin true m e) tt tt (omega arith)
le-neg (fin true m e) (fin false n d) h = →mp (n * up d * down e) (m * up e * down d)
le-neg (fin true m e) (fin true n d) h = let k = le→Le (fin true m e) (fin true n d) tt tt h in Le→le (fin false n d) (fin false m e) tt tt (omega arith)

-- the order is total among numbers
pub le-total-at : (x y : Float) → T (not (is_nan x)) → T (not (is_nan y)) → T (le x y) ⊎ T (le y x)
unfolding is_nan le
le-total-at nan y h k = absurd h
le-total-at (inf s) nan h k = absurd k
le-total-at (inf true) (inf true) h k = inl tt
le-total-at (inf true) (inf false) h k = inl tt
le-total-at (inf true) (fin t n d) h k = inl tt
le-total-at (inf false) (inf true) h k = inr tt
le-total-at (inf false) (inf false) h k = inl tt
le-total-at (inf false) (fin t n d) h k = inr tt
le-total-at (fin s m e) nan h k = absurd k
le-total-at (fin s m e) (inf true) h k = inr tt
le-total-at (fin s m e) (inf false) h k = inl tt
le-total-at (fin s m e) (fin t n d) h k =
    let x = fin s m e in
    let y = fin t n d in
    ⊎_map (λ (l : Le x y). Le→le x y tt tt l) (λ (l : Le y x). Le→le y x tt tt l) (either (plus x * den y + minus y * den x) (plus y * den x + minus x * den y))
  where
    either : (a b : ℕ) → (a ≤ b) ⊎ (b ≤ a)
    either a b = go (leb a b) (leb→le a b) (nleb→lt a b)
      where
        go : (t : Bool) → (T t → a ≤ b) → (T (not t) → b < a) → (a ≤ b) ⊎ (b ≤ a)
        go true f g = inl (f tt)
        go false f g = inr (le_of_lt (g tt))

-- a test that failed: of two numbers, the order is the other way
pub nlt→le : (x y : Float) → T (not (is_nan x)) → T (not (is_nan y)) → T (not (lt x y)) → T (le y x)
unfolding is_nan lt le
nlt→le nan y h k n = absurd h
nlt→le (inf s) nan h k n = absurd k
nlt→le (inf true) (inf true) h k n = tt
nlt→le (inf true) (inf false) h k n = absurd n
nlt→le (inf true) (fin t o d) h k n = absurd n
nlt→le (inf false) (inf true) h k n = tt
nlt→le (inf false) (inf false) h k n = tt
nlt→le (inf false) (fin t o d) h k n = tt
nlt→le (fin s m e) nan h k n = absurd k
nlt→le (fin s m e) (inf true) h k n = tt
nlt→le (fin s m e) (inf false) h k n = absurd n
nlt→le (fin false m e) (fin false o d) h k n = →pp (o * up d * down e) (m * up e * down d) 0 0 (omega (arith, nltb→le (m * up e * down d) (o * up d * down e) n))
nlt→le (fin false m e) (fin true o d) h k n = →mp (o * up d * down e) (m * up e * down d)
nlt→le (fin true m e) (fin false o d) h k n = →pm (o * up d * down e) (m * up e * down d) 0 0 (omega (arith, nltb→le 0 (m * up e * down d + o * up d * down e) n))
nlt→le (fin true m e) (fin true o d) h k n = →mm (o * up d * down e) (m * up e * down d) 0 0 (omega (arith, nltb→le (o * up d * down e) (m * up e * down d) n))

pub lt→le : (x y : Float) → T (lt x y) → T (le x y)
unfolding le
lt→le x y h = or_l (lt x y) (eq x y) h

-- ---- between two finite values
pub finite-between : (lo x hi : Float) → T (finite lo) → T (finite hi) → T (le lo x) → T (le x hi) → T (finite x)
unfolding le
finite-between lo nan hi p q h k = absurd k
finite-between nan (inf s) hi p q h k = absurd p
finite-between (inf t) (inf s) hi p q h k = absurd p
finite-between (fin t n d) (inf true) hi p q h k = absurd h
finite-between (fin t n d) (inf false) nan p q h k = absurd q
finite-between (fin t n d) (inf false) (inf u) p q h k = absurd q
finite-between (fin t n d) (inf false) (fin u o f) p q h k = absurd k
finite-between lo (fin s m e) hi p q h k = tt

-- ---- the strict order
pub lt→nle : (x y : Float) → T (lt x y) → T (le y x) → ⊥
unfolding lt le
lt→nle nan y h k = h
lt→nle (inf s) nan h k = h
lt→nle (inf true) (inf true) h k = h
lt→nle (inf true) (inf false) h k = k
lt→nle (inf false) (inf true) h k = h
lt→nle (inf false) (inf false) h k = h
lt→nle (inf true) (fin t n d) h k = k
lt→nle (inf false) (fin t n d) h k = h
lt→nle (fin s m e) nan h k = h
lt→nle (fin s m e) (inf true) h k = h
lt→nle (fin s m e) (inf false) h k = k
lt→nle (fin false m e) (fin false n d) h k = let g = pp→ (n * up d * down e) (m * up e * down d) 0 0 k in omega (arith, ltb→lt (m * up e * down d) (n * up d * down e) h)
lt→nle (fin false m e) (fin true n d) h k = h
lt→nle (fin true m e) (fin false n d) h k = let g = pm→ (n * up d * down e) (m * up e * down d) 0 0 k in omega (arith, ltb→lt 0 (m * up e * down d + n * up d * down e) h)
lt→nle (fin true m e) (fin true n d) h k = let g = mm→ (n * up d * down e) (m * up e * down d) 0 0 k in omega (arith, ltb→lt (n * up d * down e) (m * up e * down d) h)

-- of two numbers, what is not at most is above
pub nle→lt : (x y : Float) → T (not (is_nan x)) → T (not (is_nan y)) → (T (le y x) → ⊥) → T (lt x y)
nle→lt x y h k n = go (lt x y) (λ (t : T (not (lt x y))). nlt→le x y h k t)
  where
    go : (b : Bool) → (T (not b) → T (le y x)) → T b
    go true f = tt
    go false f = n (f tt)

pub le_lt_trans : (x y z : Float) → T (le x y) → T (lt y z) → T (lt x z)
le_lt_trans x y z h k = nle→lt x z (le-number-l x y h) (le-number-r y z (lt→le y z k)) (λ (g : T (le z x)). lt→nle y z k (le_trans_at z x y g h))

pub neg-neg : (x : Float) → neg (neg x) ≡ x
unfolding neg
neg-neg nan = refl
neg-neg (inf true) = refl
neg-neg (inf false) = refl
neg-neg (fin true m e) = refl
neg-neg (fin false m e) = refl
