-- Of two bit patterns whose sign is clear, up to the infinity's, the larger stands for the larger value; none of them is a NaN.
use Rattle.std.specs.Prelude.{◌≡◌, refl, true, false, not, ℕ, suc, ◌+◌, ◌-◌, ◌*◌, ◌/◌, ◌%◌, ◌^◌, ◌≤◌, ◌<◌, T, ltb, Float}
use Rattle.std.proofs.Common.{sym, ap, ◌∙◌, subst, inl, inr, true≢false, le_trans, le_of_eq, lt_of_not-le, lt_of_lt_of_le, eq-or-lt_of_le, mod-eq_of_lt, mul-one, mul_assoc, mul-le-mul_right, mul-le-mul_left, mul-lt-mul_of_pos_right, le_of_mul-le-mul_right, arith, lt→ltb, ltb→lt, T_not, pow_pos, pow_mono}
use Rattle.std.proofs.Math.Logic.{by_cases}
use Rattle.std.proofs.Math.Nat.{pow-succ'}
use Rattle.std.proofs.Math.Decide.{dec_lt}
use Rattle.std.proofs.Math.Dec.{not_T}
use Rattle.std.specs.Float.{nan, inf, fin, binary32}
use Rattle.std.specs.Float.Ieee.{up, down, of_fields, of_bits, to_bits, nan_bits, lt, fits, is_nan}
use Rattle.std.specs.Float.Ieee.Bits.{is_true, is_false, of_bits-to_bits, nan_bits_is, nan_bits_above}
use Rattle.std.specs.Float.Ieee.Exact.{HasValue}
use Rattle.std.specs.Float.Ieee.Fits.{down_pos}
use Rattle.std.specs.Float.Ieee.Order.{transfer}
use Rattle.float_laws.specs.Rounded.{clear}
use Rattle.float_laws.specs.Patterns.{clear-below}
use Rattle.float_laws.specs.BitOrder.{val, val_mono, bits_is, is-clear, zero_field}

-- ---- two values in units of 1 / c
less_of_values : (x y : Float) (a b c : ℕ) → 0 < c → HasValue x false a c → HasValue y false b c → a < b → T (lt x y)
unfolding lt
less_of_values nan y a b c C p q h = absurd p
less_of_values (inf s) y a b c C p q h = absurd p
less_of_values (fin true m e) y a b c C p q h = absurd (true≢false p.0)
less_of_values (fin false m e) nan a b c C p q h = absurd q
less_of_values (fin false m e) (inf t) a b c C p q h = absurd q
less_of_values (fin false m e) (fin true n d) a b c C p q h = absurd (true≢false q.0)
less_of_values (fin false m e) (fin false n d) a b c C p q h =
    lt→ltb (m * up e * down d) (n * up d * down e)
    (lt_of_not-le (λ (g : n * up d * down e ≤ m * up e * down d).
    let z : b ≤ a = le_of_mul-le-mul_right (transfer b a c c (n * up d) (m * up e) (down d) (down e) (down_pos d) (down_pos e) (sym q.1) (sym p.1) g) C in
    omega arith))

less_inf : (x : Float) (a c : ℕ) → HasValue x false a c → T (lt x (inf false))
unfolding lt
less_inf nan a c p = absurd p
less_inf (inf s) a c p = absurd p
less_inf (fin s m e) a c p = tt

-- ---- the patterns' values
digits_less : (b c : ℕ) → b < c → b / 8388608 ≡ c / 8388608 → 8388608 + b % 8388608 < 8388608 + c % 8388608
digits_less b c h e = omega arith

fields_le : (b c : ℕ) → b < c → b / 8388608 ≤ c / 8388608
fields_le b c h = omega arith

twice : (b : ℕ) → 8388608 + b % 8388608 < 8388608 * 2
twice b = omega arith

once : (c : ℕ) → 8388608 ≤ 8388608 + c % 8388608
once c = omega arith

next : (x y : ℕ) → 1 ≤ x → x < y → suc (x - 1) ≤ y - 1
next x y h k = omega arith

first : (b : ℕ) → 8388608 ≤ b → 1 ≤ b / 8388608
first b h = omega arith

val_less : (b c : ℕ) → 8388608 ≤ b → b < c → val b < val c
val_less b c h k =
    elim (eq-or-lt_of_le (fields_le b c k)) [
      | inl e ↦ subst (λ (x : ℕ). val b < (8388608 + c % 8388608) * 2 ^ (x - 1)) e (mul-lt-mul_of_pos_right (digits_less b c k e) (pow_pos (b / 8388608 - 1)))
      | inr l ↦
          lt_of_lt_of_le (mul-lt-mul_of_pos_right (twice b) (pow_pos (b / 8388608 - 1)))
          (le_trans (le_of_eq (mul_assoc 8388608 2 (2 ^ (b / 8388608 - 1)) ∙ ap (λ (x : ℕ). 8388608 * x) (sym (pow-succ' 2 (b / 8388608 - 1)))))
          (le_trans (mul-le-mul_left 8388608 (pow_mono (next (b / 8388608) (c / 8388608) (first b h) l))) (mul-le-mul_right (2 ^ (c / 8388608 - 1)) (once c))))
    ]

-- below the normal patterns the value is the pattern itself
sub_is : (b : ℕ) → b < 8388608 → HasValue (of_bits binary32 b) false b (2 ^ 149)
sub_is b h =
    let e : b / 8388608 ≡ 0 = omega arith in
    let f : b % 8388608 * 2 ^ 0 ≡ b = mul-one (b % 8388608) ∙ mod-eq_of_lt h in
    subst (λ (x : Float). HasValue x false b (2 ^ 149)) (sym (is-clear b (omega arith) ∙ ap (λ (x : ℕ). of_fields binary32 false x (b % 8388608)) e))
    (subst (λ (n : ℕ). HasValue (of_fields binary32 false 0 (b % 8388608)) false n (2 ^ 149)) f (zero_field (b % 8388608)))

below_inf : (b c : ℕ) → b < c → c < 2139095040 → T (lt (of_bits binary32 b) (of_bits binary32 c))
below_inf b c h k =
    by_cases (dec_lt c 8388608)
    (λ (l : c < 8388608). less_of_values (of_bits binary32 b) (of_bits binary32 c) b c (2 ^ 149) (pow_pos 149) (sub_is b (omega arith)) (sub_is c l) h)
    (λ l.
    let high : 8388608 ≤ c = omega arith in
    by_cases (dec_lt b 8388608)
    (λ (s : b < 8388608).
    less_of_values (of_bits binary32 b) (of_bits binary32 c) b (val c) (2 ^ 149) (pow_pos 149) (sub_is b s) (bits_is c high k) (lt_of_lt_of_le s (val_mono 8388608 c (le_of_eq refl) high)))
    (λ s.
    let low : 8388608 ≤ b = omega arith in
    less_of_values (of_bits binary32 b) (of_bits binary32 c) (val b) (val c) (2 ^ 149) (pow_pos 149) (bits_is b low (omega arith)) (bits_is c high k) (val_less b c low h)))

inf-is : of_bits binary32 2139095040 ≡ inf false
unfolding of_bits
inf-is = refl

under_inf : (b : ℕ) → b < 2139095040 → T (lt (of_bits binary32 b) (inf false))
under_inf b h =
    by_cases (dec_lt b 8388608)
    (λ (s : b < 8388608). less_inf (of_bits binary32 b) b (2 ^ 149) (sub_is b s))
    (λ s. less_inf (of_bits binary32 b) (val b) (2 ^ 149) (bits_is b (omega arith) h))

-- 2139095040 is 255 * 2 ^ 23, the pattern of the infinity
pub bits_less : (b c : ℕ) → b < c → c ≤ 2139095040 → T (lt (of_bits binary32 b) (of_bits binary32 c))
bits_less b c h k =
    elim (eq-or-lt_of_le k) [
      | inl e ↦ subst (λ (x : Float). T (lt (of_bits binary32 b) x)) (sym (ap (of_bits binary32) e ∙ inf-is)) (under_inf b (omega arith))
      | inr l ↦ below_inf b c h l
    ]

-- up to it no pattern is a NaN's
pub no_nan-bits : (b : ℕ) → b ≤ 2139095040 → nan_bits binary32 b ≡ false
no_nan-bits b h =
    nan_bits_above binary32 b
    ∙ is_false (ltb 2139095040 (b % 2147483648)) (not_T (ltb 2139095040 (b % 2147483648)) (λ (u : T (ltb 2139095040 (b % 2147483648))). over (ltb→lt 2139095040 (b % 2147483648) u)))
  where
    over : 2139095040 < b % 2147483648 → ⊥
    over g = omega arith

pub bits-number : (b : ℕ) → b ≤ 2139095040 → is_nan (of_bits binary32 b) ≡ false
bits-number b h = sym (nan_bits_is binary32 b) ∙ no_nan-bits b h

pub clear-number : (x : Float) → T (clear x) → T (not (is_nan x))
unfolding is_nan
clear-number nan h = absurd h
clear-number (inf s) h = tt
clear-number (fin s m e) h = tt

-- a value whose sign is clear has such a pattern
pub clear-at-most : (x : Float) → T (fits binary32 x) → T (clear x) → to_bits binary32 x ≤ 2139095040
clear-at-most x t s =
    by_cases (dec_lt 2139095040 (to_bits binary32 x))
    (λ (g : 2139095040 < to_bits binary32 x). absurd (T_not (is_nan x) (clear-number x s) (subst T (sym (is-nan g)) tt)))
    (λ g. omega arith)
  where
    is-nan : 2139095040 < to_bits binary32 x → is_nan x ≡ true
    is-nan g =
        let b = to_bits binary32 x in
        let e : b % 2147483648 ≡ b = mod-eq_of_lt (clear-below x t s) in
        ap is_nan (sym (of_bits-to_bits binary32 x t))
        ∙ sym (nan_bits_is binary32 b)
        ∙ nan_bits_above binary32 b
        ∙ is_true (ltb 2139095040 (b % 2147483648)) (lt→ltb 2139095040 (b % 2147483648) (subst (λ (n : ℕ). 2139095040 < n) (sym e) g))
