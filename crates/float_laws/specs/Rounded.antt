-- Rounding, signed: `Is f z p n c` says that z is the fraction (p - n) / c, rounded to the format f. A larger fraction rounds to a value that is no smaller,
-- and no rounding passes a value that the format holds.
use Rattle.std.specs.Prelude.{◌≡◌, refl, ◌⊎◌, ℕ, zero, suc, ◌+◌, ◌-◌, ◌*◌, ◌^◌, ◌%◌, ◌≤◌, ◌<◌, Bool, true, false, not, ◌&&◌, cond, ℤ, pos, negsuc, T, ltb, leb, eqb, Float}
use Rattle.std.proofs.Common.{sym, ap, ◌∙◌, subst, inl, inr, lt_of_not-le, not-le_of_lt, mul_comm, mul_assoc, mul_right_comm, mul-one, add-mul, mul-lt-mul_of_pos_right, lt_of_mul-lt-mul_right, mul-pos, zero-mul, zero-add, zero-lt-suc, arith, true≢false, pow-add, pow_pos, ltb→lt, leb→le}
use Rattle.std.proofs.Math.Pow.{pow-lt}
use Rattle.std.specs.Float.{nan, inf, fin, Format}
use Rattle.std.specs.Float.Ieee.{prec, emax, low, up, down, odd, units, round, neg, le, fits}
use Rattle.std.specs.Float.Ieee.Digits.{back}
use Rattle.std.specs.Float.Ieee.Fits.{round_is, down_pos, and_l, and_r}
use Rattle.std.specs.Float.Ieee.Exact.{HasValue, round_exact}
use Rattle.std.specs.Float.Ieee.Order.{round_mono}
use Rattle.std.specs.Float.Ieee.Scale.{finite}
use Rattle.std.specs.Float.Ieee.Positive.{den}
use Rattle.float_laws.specs.Order.{plus, minus, Below, Le→le, le-neg, le_trans_at}

-- ---- the two signs
odd-neg : (d q k l : ℕ) → odd d true q k l ≡ neg (odd d false q k l)
unfolding odd neg
odd-neg d zero k l = refl
odd-neg d (suc q) k l = refl

units-neg : (f : Format) (q k : ℕ) → units f true q k ≡ neg (units f false q k)
unfolding units neg
units-neg f q k = go (ltb (q * 2 ^ k) (2 ^ (low f + suc (emax f))))
  where
    go : (b : Bool) → cond b (odd (suc (prec f)) true q k (low f)) (inf true) ≡ neg (cond b (odd (suc (prec f)) false q k (low f)) (inf false))
    go true = odd-neg (suc (prec f)) q k (low f)
    go false = refl

pub round-neg : (f : Format) (a c : ℕ) → round f true a c ≡ neg (round f false a c)
round-neg f a c = round_is f true a c ∙ units-neg f _ _ ∙ ap neg (sym (round_is f false a c))

-- the sign bit is clear, and the value no NaN
abbrev pub clear : Float → Bool
clear nan = false
clear (inf s) = not s
clear (fin s m e) = not s

odd-clear : (d q k l : ℕ) → T (clear (odd d false q k l))
unfolding odd
odd-clear d zero k l = tt
odd-clear d (suc q) k l = tt

units-clear : (f : Format) (q k : ℕ) → T (clear (units f false q k))
unfolding units
units-clear f q k = go (ltb (q * 2 ^ k) (2 ^ (low f + suc (emax f))))
  where
    go : (b : Bool) → T (clear (cond b (odd (suc (prec f)) false q k (low f)) (inf false)))
    go true = odd-clear (suc (prec f)) q k (low f)
    go false = tt

pub round-clear : (f : Format) (a c : ℕ) → T (clear (round f false a c))
round-clear f a c = subst (λ (z : Float). T (clear z)) (sym (round_is f false a c)) (units-clear f _ _)

pub neg-le-clear : (x y : Float) → T (clear x) → T (clear y) → T (le (neg x) y)
unfolding le neg
neg-le-clear nan y p q = absurd p
neg-le-clear (inf true) y p q = absurd p
neg-le-clear (inf false) nan p q = absurd q
neg-le-clear (inf false) (inf true) p q = absurd q
neg-le-clear (inf false) (inf false) p q = tt
neg-le-clear (inf false) (fin t n d) p q = tt
neg-le-clear (fin true m e) y p q = absurd p
neg-le-clear (fin false m e) nan p q = absurd q
neg-le-clear (fin false m e) (inf true) p q = absurd q
neg-le-clear (fin false m e) (inf false) p q = tt
neg-le-clear (fin false m e) (fin true n d) p q = absurd q
neg-le-clear (fin false m e) (fin false n d) p q = Le→le (fin true m e) (fin false n d) tt tt (omega arith)

-- ---- (p - n) / c, rounded
abbrev pub Is : Format → Float → ℕ → ℕ → ℕ → Type 0
Is f z p n c = (0 < c) × (((m : ℕ) × (p ≡ n + m) × (z ≡ round f false m c)) ⊎ ((m : ℕ) × (n ≡ p + m) × (z ≡ round f true m c)))

no_product : (m c : ℕ) → 0 < c → m * c ≡ 0 → m ≡ 0
no_product zero c C h = refl
no_product (suc m) c C h = absurd (le_absurd (suc m * c) (mul-pos (zero-lt-suc m) C) h)
  where
    le_absurd : (x : ℕ) → 0 < x → x ≡ 0 → ⊥
    le_absurd x p e = omega arith

zero_val : (f : Format) (s : Bool) (c : ℕ) → 0 < c → HasValue (round f s 0 c) s 0 c
zero_val f s c C = round_exact f s 0 c 0 0 C (pow_pos (prec f)) (pow_pos (low f + suc (emax f))) (zero-mul (2 ^ low f) ∙ sym (zero-mul c))

le-zeros : (x y : Float) (c d : ℕ) → 0 < c → 0 < d → HasValue x false 0 c → HasValue y true 0 d → T (le x y)
le-zeros nan y c d C D p q = absurd p
le-zeros (inf s) y c d C D p q = absurd p
le-zeros (fin true m e) y c d C D p q = absurd (true≢false p.0)
le-zeros (fin false m e) nan c d C D p q = absurd q
le-zeros (fin false m e) (inf t) c d C D p q = absurd q
le-zeros (fin false m e) (fin false n h) c d C D p q = absurd (true≢false (sym q.0))
le-zeros (fin false m e) (fin true n h) c d C D p q =
    let a : m * up e * down h ≡ 0 = ap (λ (z : ℕ). z * down h) (no_product (m * up e) c C (p.1 ∙ zero-mul (down e))) ∙ zero-mul (down h) in
    let b : n * up h * down e ≡ 0 = ap (λ (z : ℕ). z * down e) (no_product (n * up h) d D (q.1 ∙ zero-mul (down h))) ∙ zero-mul (down e) in
    Le→le (fin false m e) (fin true n h) tt tt (omega arith)

both_zero : (m c' m' c : ℕ) → 0 < c → 0 < c' → m * c' + m' * c ≤ 0 → (m ≡ 0) × (m' ≡ 0)
both_zero m c' m' c C C' h = (no_product m c' C' (omega arith), no_product m' c C (omega arith))

cross_pp : (p n c q o d m k : ℕ) → p ≡ n + m → q ≡ o + k → Below p n c q o d → m * d ≤ k * c
cross_pp p n c q o d m k e u h =
    let a : p * d ≡ n * d + m * d = ap (λ (z : ℕ). z * d) e ∙ add-mul n m d in
    let b : q * c ≡ o * c + k * c = ap (λ (z : ℕ). z * c) u ∙ add-mul o k c in
    omega arith

cross_pm : (p n c q o d m k : ℕ) → p ≡ n + m → o ≡ q + k → Below p n c q o d → m * d + k * c ≤ 0
cross_pm p n c q o d m k e u h =
    let a : p * d ≡ n * d + m * d = ap (λ (z : ℕ). z * d) e ∙ add-mul n m d in
    let b : o * c ≡ q * c + k * c = ap (λ (z : ℕ). z * c) u ∙ add-mul q k c in
    omega arith

cross_mm : (p n c q o d m k : ℕ) → n ≡ p + m → o ≡ q + k → Below p n c q o d → k * c ≤ m * d
cross_mm p n c q o d m k e u h =
    let a : n * d ≡ p * d + m * d = ap (λ (z : ℕ). z * d) e ∙ add-mul p m d in
    let b : o * c ≡ q * c + k * c = ap (λ (z : ℕ). z * c) u ∙ add-mul q k c in
    omega arith

pub round-le : (f : Format) (z w : Float) (p n c q o d : ℕ) → Is f z p n c → Is f w q o d → Below p n c q o d → T (le z w)
round-le f z w p n c q o d (C, inl (m, e, u)) (D, inl (k, v, x)) h =
    rw (u, x) (round_mono f m c k d C D (cross_pp p n c q o d m k e v h))
round-le f z w p n c q o d (C, inl (m, e, u)) (D, inr (k, v, x)) h =
    let zz = both_zero m d k c C D (cross_pm p n c q o d m k e v h) in
    rw (u, x, zz.0, zz.1) (le-zeros (round f false 0 c) (round f true 0 d) c d C D (zero_val f false c C) (zero_val f true d D))
round-le f z w p n c q o d (C, inr (m, e, u)) (D, inl (k, v, x)) h =
    rw (u, x, round-neg f m c) (neg-le-clear (round f false m c) (round f false k d) (round-clear f m c) (round-clear f k d))
round-le f z w p n c q o d (C, inr (m, e, u)) (D, inr (k, v, x)) h =
    rw (u, x, round-neg f m c, round-neg f k d) (le-neg (round f false k d) (round f false m c) (round_mono f k d m c D C (cross_mm p n c q o d m k e v h)))

-- ---- a value that the format holds is its own rounding
pub pow_anti : (a b : ℕ) → 2 ^ a ≤ 2 ^ b → a ≤ b
pow_anti a b h = lt_of_suc (lt_of_not-le (λ (g : suc b ≤ a). not-le_of_lt (pow-lt g) h))
  where
    lt_of_suc : a < suc b → a ≤ b
    lt_of_suc g = omega arith

abbrev Holds : Format → Bool → ℕ → ℤ → Type 0
Holds f s m e = HasValue (round f s (m * up e) (down e)) s (m * up e) (down e)

held-pos : (f : Format) (s : Bool) (m k : ℕ) → m < 2 ^ prec f → m * 2 ^ k < 2 ^ suc (emax f) * 1 → Holds f s m (pos k)
held-pos f s m k a b =
    round_exact f s (m * 2 ^ k) 1 m (k + low f) (zero-lt-suc 0) a
    (subst (λ (x : ℕ). x < 2 ^ (low f + suc (emax f))) (mul_assoc m (2 ^ k) (2 ^ low f) ∙ ap (λ (x : ℕ). m * x) (sym (pow-add 2 k (low f))))
    (subst (λ (x : ℕ). m * 2 ^ k * 2 ^ low f < x) (ap (λ (x : ℕ). x * 2 ^ low f) (mul-one (2 ^ suc (emax f))) ∙ mul_comm (2 ^ suc (emax f)) (2 ^ low f) ∙ sym (pow-add 2 (low f) (suc (emax f))))
    (mul-lt-mul_of_pos_right b (pow_pos (low f)))))
    (mul_assoc m (2 ^ k) (2 ^ low f) ∙ ap (λ (x : ℕ). m * x) (sym (pow-add 2 k (low f))) ∙ sym (mul-one (m * 2 ^ (k + low f))))

held-neg : (f : Format) (s : Bool) (m k : ℕ) → m < 2 ^ prec f → 2 ^ suc k ≤ 2 ^ low f → m * 1 < 2 ^ suc (emax f) * 2 ^ suc k → Holds f s m (negsuc k)
held-neg f s m k a l b =
    let j = low f - suc k in
    let e : j + suc k ≡ low f = back (low f) (suc k) (pow_anti (suc k) (low f) l) in
    let p : 2 ^ j * 2 ^ suc k ≡ 2 ^ low f = sym (pow-add 2 j (suc k)) ∙ ap (λ (x : ℕ). 2 ^ x) e in
    round_exact f s (m * 1) (2 ^ suc k) m j (pow_pos (suc k)) a
    (lt_of_mul-lt-mul_right (2 ^ suc k)
    (subst (λ (x : ℕ). x < 2 ^ (low f + suc (emax f)) * 2 ^ suc k) (ap (λ (x : ℕ). m * 1 * x) (sym p) ∙ ap (λ (x : ℕ). x * (2 ^ j * 2 ^ suc k)) (mul-one m) ∙ sym (mul_assoc m (2 ^ j) (2 ^ suc k)))
    (subst (λ (x : ℕ). m * 1 * 2 ^ low f < x) (mul_right_comm (2 ^ suc (emax f)) (2 ^ suc k) (2 ^ low f) ∙ ap (λ (x : ℕ). x * 2 ^ suc k) (mul_comm (2 ^ suc (emax f)) (2 ^ low f) ∙ sym (pow-add 2 (low f) (suc (emax f)))))
    (mul-lt-mul_of_pos_right b (pow_pos (low f))))))
    (ap (λ (x : ℕ). x * 2 ^ low f) (mul-one m) ∙ ap (λ (x : ℕ). m * x) (sym p) ∙ sym (mul_assoc m (2 ^ j) (2 ^ suc k)))

held-zero : (f : Format) (s : Bool) (e : ℤ) → Holds f s 0 e
held-zero f s e = subst (λ (x : ℕ). HasValue (round f s x (down e)) s x (down e)) (sym (zero-mul (up e))) (zero_val f s (down e) (down_pos e))

pub parts : (f : Format) (m : ℕ) (e : ℤ) → T (eqb (suc m % 2) 1 && ltb (suc m) (2 ^ prec f) && leb (down e) (2 ^ low f) && ltb (suc m * up e) (2 ^ suc (emax f) * down e))
    → (suc m < 2 ^ prec f) × (down e ≤ 2 ^ low f) × (suc m * up e < 2 ^ suc (emax f) * down e)
parts f m e t =
    let a : Bool = eqb (suc m % 2) 1 in
    let b : Bool = ltb (suc m) (2 ^ prec f) in
    let c : Bool = leb (down e) (2 ^ low f) in
    let d : Bool = ltb (suc m * up e) (2 ^ suc (emax f) * down e) in
    (ltb→lt (suc m) (2 ^ prec f) (and_r a b (and_l (a && b) c (and_l (a && b && c) d t))), leb→le (down e) (2 ^ low f) (and_r (a && b) c (and_l (a && b && c) d t)), ltb→lt (suc m * up e) (2 ^ suc (emax f) * down e) (and_r (a && b && c) d t))

held : (f : Format) (s : Bool) (m : ℕ) (e : ℤ) → T (fits f (fin s m e)) → Holds f s m e
unfolding fits
held f s zero e t = held-zero f s e
held f s (suc m) (pos k) t = let x = parts f m (pos k) t in held-pos f s (suc m) k x.0 x.2
held f s (suc m) (negsuc k) t = let x = parts f m (negsuc k) t in held-neg f s (suc m) k x.0 x.1 x.2

own_is : (f : Format) (s : Bool) (m : ℕ) (e : ℤ) → Is f (round f s (m * up e) (down e)) (plus (fin s m e)) (minus (fin s m e)) (down e)
own_is f false m e = (down_pos e, inl (m * up e, sym (zero-add (m * up e)), refl))
own_is f true m e = (down_pos e, inr (m * up e, sym (zero-add (m * up e)), refl))

-- two finite values of the same sign and size
value_le : (w : Float) (s : Bool) (m : ℕ) (e : ℤ) → HasValue w s (m * up e) (down e) → T (le w (fin s m e)) × T (le (fin s m e) w)
value_le nan s m e h = absurd h
value_le (inf t) s m e h = absurd h
value_le (fin true n d) true m e h = let g = h.1 in (Le→le (fin true n d) (fin true m e) tt tt (omega arith), Le→le (fin true m e) (fin true n d) tt tt (omega arith))
value_le (fin false n d) false m e h = let g = h.1 in (Le→le (fin false n d) (fin false m e) tt tt (omega arith), Le→le (fin false m e) (fin false n d) tt tt (omega arith))
value_le (fin true n d) false m e h = absurd (true≢false h.0)
value_le (fin false n d) true m e h = absurd (true≢false (sym h.0))

-- ---- no rounding passes a value that the format holds
pub at_least : (f : Format) (x z : Float) (p n c : ℕ) → T (fits f x) → T (finite x) → Is f z p n c → Below (plus x) (minus x) (den x) p n c → T (le x z)
at_least f nan z p n c t u i h = absurd u
at_least f (inf s) z p n c t u i h = absurd u
at_least f (fin s m e) z p n c t u i h =
    let x = fin s m e in
    let w = round f s (m * up e) (down e) in
    le_trans_at x w z (value_le w s m e (held f s m e t)).1 (round-le f w z (plus x) (minus x) (down e) p n c (own_is f s m e) i h)

pub at-most : (f : Format) (x z : Float) (p n c : ℕ) → T (fits f x) → T (finite x) → Is f z p n c → Below p n c (plus x) (minus x) (den x) → T (le z x)
at-most f nan z p n c t u i h = absurd u
at-most f (inf s) z p n c t u i h = absurd u
at-most f (fin s m e) z p n c t u i h =
    let x = fin s m e in
    let w = round f s (m * up e) (down e) in
    le_trans_at z w x (round-le f z w p n c (plus x) (minus x) (down e) i (own_is f s m e) h) (value_le w s m e (held f s m e t)).0
