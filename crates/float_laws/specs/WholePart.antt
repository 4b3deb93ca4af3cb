-- The whole part of a float from 1 up, by a shift of the digits of its pattern.
use Rattle.std.specs.Prelude.{◌≡◌, true, false, ℕ, ◌+◌, ◌-◌, ◌*◌, ◌/◌, ◌%◌, ◌^◌, ◌≤◌, ◌<◌, min, T, Float}
use Rattle.std.proofs.Common.{sym, ap, ◌∙◌, subst, true≢false, mul_assoc, div-le_self, lt_of_le_of_lt, arith, pow-add, pow_pos}
use Rattle.std.specs.Float.{nan, inf, fin, binary32}
use Rattle.std.specs.Float.Ieee.{up, down, fits, to_bits, to_unsigned}
use Rattle.std.specs.Float.Ieee.Bits.{of_bits-to_bits}
use Rattle.std.specs.Float.Ieee.Exact.{HasValue}
use Rattle.std.specs.Float.Ieee.Fits.{down_pos}
use Rattle.std.specs.Float.Ieee.Nearest.{div_same}
use Rattle.float_laws.specs.BitOrder.{val, bits_is}

-- a value a / c
whole_of : (x : Float) (a c : ℕ) → 0 < c → a / c < 2 ^ 32 → HasValue x false a c → to_unsigned 32 x ≡ a / c
unfolding to_unsigned
whole_of nan a c C l h = absurd h
whole_of (inf s) a c C l h = absurd h
whole_of (fin true m e) a c C l h = absurd (true≢false h.0)
whole_of (fin false m e) a c C l h = cut (m * up e / down e) (a / c) (div_same (m * up e) (down e) a c (down_pos e) C h.1) l
  where
    cut : (q r : ℕ) → q ≡ r → r < 2 ^ 32 → min q (2 ^ 32 - 1) ≡ r
    cut q r e l = omega arith

-- the digits of the pattern b, shifted
pub shifted : (d e : ℕ) → 1 ≤ e → e ≤ 150 → d * 2 ^ (e - 1) / 2 ^ 149 ≡ d / 2 ^ (150 - e)
shifted d e h k =
    let s : e - 1 + (150 - e) ≡ 149 = omega arith in
    div_same (d * 2 ^ (e - 1)) (2 ^ 149) d (2 ^ (150 - e)) (pow_pos 149) (pow_pos (150 - e))
    (mul_assoc d (2 ^ (e - 1)) (2 ^ (150 - e)) ∙ ap (λ (n : ℕ). d * n) (sym (pow-add 2 (e - 1) (150 - e)) ∙ ap (λ (n : ℕ). 2 ^ n) s))

pub whole-by-digits :
    (x : Float) → T (fits binary32 x) → 2 ^ 23 ≤ to_bits binary32 x → to_bits binary32 x < 151 * 2 ^ 23 →
    to_unsigned 32 x ≡ (2 ^ 23 + to_bits binary32 x % 2 ^ 23) / 2 ^ (150 - to_bits binary32 x / 2 ^ 23)
whole-by-digits x t h k =
    let b = to_bits binary32 x in
    let d = 2 ^ 23 + b % 2 ^ 23 in
    let e = shifted d (b / 2 ^ 23) (omega arith) (omega arith) in
    whole_of x (val b) (2 ^ 149) (pow_pos 149) (small d (2 ^ (150 - b / 2 ^ 23)) (val b / 2 ^ 149) e (omega arith)) (subst (λ (z : Float). HasValue z false (val b) (2 ^ 149)) (of_bits-to_bits binary32 x t) (bits_is b h (omega arith))) ∙ e
  where
    small : (d n q : ℕ) → q ≡ d / n → d < 2 ^ 32 → q < 2 ^ 32
    small d n q e h = subst (λ (r : ℕ). r < 2 ^ 32) (sym e) (lt_of_le_of_lt (div-le_self d n) h)
