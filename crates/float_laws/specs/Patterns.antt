-- The bit pattern of a value whose sign is clear is below 2 ^ 31, and the whole part of a value is at most a whole number that the value is at most.
use Rattle.std.specs.Prelude.{◌≡◌, refl, Bool, true, false, cond, ℕ, zero, suc, ◌+◌, ◌-◌, ◌*◌, ◌/◌, ◌%◌, ◌^◌, ◌≤◌, ◌<◌, pos, T, leb, eqb, Float}
use Rattle.std.proofs.Common.{sym, subst, le_trans, div-lt_iff_lt-mul, lt_of_not-le, lt_of_le_of_lt, le-div_iff_mul-le, suc-mul, mul-one, arith, ltb→lt, le→leb}
use Rattle.std.proofs.Math.Nat.{min-le_left, le-min}
use Rattle.std.specs.Float.{nan, inf, fin, Format, binary32}
use Rattle.std.specs.Float.Ieee.{prec, low, hid, ones, top, up, down, odd, le, lt, fits, of_fields, of_bits, to_bits, to_unsigned}
use Rattle.std.specs.Float.Ieee.Bits.{of_bits-to_bits}
use Rattle.std.specs.Float.Ieee.Fits.{down_pos}
use Rattle.std.specs.Float.Ieee.Scale.{finite}
use Rattle.float_laws.specs.Order.{le→Le}
use Rattle.float_laws.specs.Rounded.{clear}

odd_set : (d q k l : ℕ) → T (clear (odd d true q k l)) → ⊥
unfolding odd
odd_set d zero k l h = h
odd_set d (suc q) k l h = h

cond-set : (b : Bool) (x y : Float) → (T (clear x) → ⊥) → (T (clear y) → ⊥) → T (clear (cond b x y)) → ⊥
cond-set true x y f g h = f h
cond-set false x y f g h = g h

fields_set : (f : Format) (x t : ℕ) → T (clear (of_fields f true x t)) → ⊥
unfolding of_fields
fields_set f zero t h = odd_set (prec f) t 0 (low f) h
fields_set f (suc x) t h =
    cond-set (eqb (suc x) (ones f)) (cond (eqb t 0) (inf true) nan) (odd (prec f) true (hid f + t) x (low f))
    (λ (k : T (clear (cond (eqb t 0) (inf true) nan))). cond-set (eqb t 0) (inf true) nan (λ (u : ⊥). u) (λ (u : ⊥). u) k) (odd_set (prec f) (hid f + t) x (low f)) h

bits-set : (f : Format) (b : ℕ) → T (leb (top f) b) → T (clear (of_bits f b)) → ⊥
unfolding of_bits
bits-set f b h k = fields_set f (b % top f / hid f) (b % hid f) (subst (λ (s : Bool). T (clear (of_fields f s (b % top f / hid f) (b % hid f)))) (yes (leb (top f) b) h) k)
  where
    yes : (s : Bool) → T s → s ≡ true
    yes true t = refl
    yes false t = absurd t

pub clear-below : (x : Float) → T (fits binary32 x) → T (clear x) → to_bits binary32 x < 2 ^ 31
clear-below x t h =
    lt_of_not-le (λ (g : 2 ^ 31 ≤ to_bits binary32 x). bits-set binary32 (to_bits binary32 x) (le→leb (2 ^ 31) (to_bits binary32 x) g) (subst (λ (v : Float). T (clear v)) (sym (of_bits-to_bits binary32 x t)) h))

-- ---- the whole part
whole-cut : (a d h : ℕ) → 0 < d → a ≤ h * d → a / d ≤ h
whole-cut a d h D k = le_of_lt-suc ((div-lt_iff_lt-mul D).1 (next a h d D k))
  where
    next : (a h d : ℕ) → 0 < d → a ≤ h * d → a < suc h * d
    next a h d D k = let e : suc h * d ≡ h * d + d = suc-mul h d in omega arith

    le_of_lt-suc : a / d < suc h → a / d ≤ h
    le_of_lt-suc g = omega arith

pub whole-part-le : (w h : ℕ) (x : Float) → T (finite x) → T (le x (fin false h (pos 0))) → to_unsigned w x ≤ h
unfolding to_unsigned
whole-part-le w h nan p k = absurd p
whole-part-le w h (inf s) p k = absurd p
whole-part-le w h (fin true m e) p k = omega arith
whole-part-le w h (fin false m e) p k =
    le_trans (min-le_left (m * up e / down e) (2 ^ w - 1)) (whole-cut (m * up e) (down e) h (down_pos e) (omega (arith, le→Le (fin false m e) (fin false h (pos 0)) tt tt k)))

pub whole-part_ge : (w h : ℕ) (x : Float) → h < 2 ^ w → T (finite x) → T (le (fin false h (pos 0)) x) → h ≤ to_unsigned w x
unfolding to_unsigned
whole-part_ge w h nan g p k = absurd p
whole-part_ge w h (inf s) g p k = absurd p
whole-part_ge w h (fin true m e) g p k = zero_of h (m * up e) (down e) (omega (arith, le→Le (fin false h (pos 0)) (fin true m e) tt tt k)) (down_pos e)
  where
    zero_of : (h a d : ℕ) → h * d + a ≤ 0 → 0 < d → h ≤ 0
    zero_of zero a d g D = omega arith
    zero_of (suc h) a d g D = let e : suc h * d ≡ h * d + d = suc-mul h d in omega arith
whole-part_ge w h (fin false m e) g p k =
    let q : h * down e ≤ m * up e = omega (arith, le→Le (fin false h (pos 0)) (fin false m e) tt tt k) in
    le-min ((le-div_iff_mul-le (down_pos e)).1 q) (omega arith)

pub whole-part-lt : (w h : ℕ) (x : Float) → 0 < h → T (finite x) → T (lt x (fin false h (pos 0))) → to_unsigned w x < h
unfolding to_unsigned lt
whole-part-lt w h nan H p k = absurd p
whole-part-lt w h (inf s) H p k = absurd p
whole-part-lt w h (fin true m e) H p k = H
whole-part-lt w h (fin false m e) H p k =
    let q : m * up e < h * down e = omega (arith, ltb→lt (m * up e * 1) (h * 1 * down e) k, mul-one h, mul-one (m * up e)) in
    lt_of_le_of_lt (min-le_left (m * up e / down e) (2 ^ w - 1)) ((div-lt_iff_lt-mul (down_pos e)).1 q)
