-- The bit patterns of the positive normal values of binary32: what number each stands for, and that a larger pattern stands for a larger number.
-- So a value between two values has its pattern between theirs. The first part is that of the example rsqrt.
use Rattle.std.specs.Prelude.{◌≡◌, refl, ◌⊎◌, ℕ, suc, ◌+◌, ◌-◌, ◌*◌, ◌/◌, ◌%◌, ◌^◌, ◌≤◌, ◌<◌, Bool, true, false, not, cond, T, leb, eqb, Float}
use Rattle.std.proofs.Common.{sym, ap, ◌∙◌, subst, inl, inr, lt_of_not-le, le_trans, le_of_eq, not-le_of_lt, eq-or-lt_of_le, mod-eq_of_lt, mul_assoc, mul-le-mul_right, mul-le-mul_left, arith, leb→le, eqb→eq, pow_pos, pow_mono}
use Rattle.std.proofs.Math.Nat.{pow-succ'}
use Rattle.std.proofs.Math.Dec.{nleb→lt, not_T}
use Rattle.std.specs.Float.{nan, inf, binary32}
use Rattle.std.specs.Float.Ieee.{odd, of_fields, of_bits, to_bits, le, lt, fits}
use Rattle.std.specs.Float.Ieee.Bits.{is_false, cond_no, of_bits-to_bits}
use Rattle.std.specs.Float.Ieee.Exact.{HasValue, odd_sign}
use Rattle.std.specs.Float.Ieee.Order.{le_of_values}
use Rattle.std.specs.Float.Ieee.Scale.{finite}
use Rattle.float_laws.specs.Order.{le_trans_at, lt→nle}
use Rattle.float_laws.specs.Rounded.{clear}
use Rattle.float_laws.specs.Patterns.{clear-below}

pub of_bits_is : (b : ℕ) → of_bits binary32 b ≡ of_fields binary32 (leb 2147483648 b) (b % 2147483648 / 8388608) (b % 8388608)
unfolding of_bits
of_bits_is b = refl

differ : (x : ℕ) → suc x < 255 → suc x ≡ 255 → ⊥
differ x h e = omega arith

under_ones : (t x : ℕ) → suc x < 255 → of_fields binary32 false (suc x) t ≡ odd 24 false (8388608 + t) x 149
unfolding of_fields
under_ones t x h = cond_no (eqb (suc x) 255) (cond (eqb t 0) (inf false) nan) (odd 24 false (8388608 + t) x 149) (not_T (eqb (suc x) 255) (λ (u : T (eqb (suc x) 255)). differ x h (eqb→eq (suc x) 255 u)))

small : (b : ℕ) → b < 2139095040 → b < 2147483648
small b h = omega arith

field : (b : ℕ) → 8388608 ≤ b → suc (b / 8388608 - 1) ≡ b / 8388608
field b h = omega arith

field_lt : (b : ℕ) → 8388608 ≤ b → b < 2139095040 → suc (b / 8388608 - 1) < 255
field_lt b h k = omega arith

-- 2139095040 is 255 * 2 ^ 23, the pattern of the infinity
pub normal : (b : ℕ) → 8388608 ≤ b → b < 2139095040 → of_bits binary32 b ≡ odd 24 false (8388608 + b % 8388608) (b / 8388608 - 1) 149
normal b h k =
    of_bits_is b
    ∙ ap (λ (s : Bool). of_fields binary32 s (b % 2147483648 / 8388608) (b % 8388608)) (is_false (leb 2147483648 b) (not_T (leb 2147483648 b) (λ (u : T (leb 2147483648 b)). not-le_of_lt (small b k) (leb→le 2147483648 b u))))
    ∙ ap (λ (x : ℕ). of_fields binary32 false (x / 8388608) (b % 8388608)) (mod-eq_of_lt (small b k))
    ∙ ap (λ (x : ℕ). of_fields binary32 false x (b % 8388608)) (sym (field b h))
    ∙ under_ones (b % 8388608) (b / 8388608 - 1) (field_lt b h k)

-- the number in units of 2 ^ -149
abbrev pub val : ℕ → ℕ
val b = (8388608 + b % 8388608) * 2 ^ (b / 8388608 - 1)

pub bits_is : (b : ℕ) → 8388608 ≤ b → b < 2139095040 → HasValue (of_bits binary32 b) false (val b) (2 ^ 149)
bits_is b h k = subst (λ (x : Float). HasValue x false (val b) (2 ^ 149)) (sym (normal b h k)) (odd_sign 24 false (8388608 + b % 8388608) (b / 8388608 - 1) 149)

fields_le : (b c : ℕ) → b ≤ c → b / 8388608 ≤ c / 8388608
fields_le b c h = omega arith

digits_le : (b c : ℕ) → b ≤ c → b / 8388608 ≡ c / 8388608 → 8388608 + b % 8388608 ≤ 8388608 + c % 8388608
digits_le b c h e = omega arith

twice : (b : ℕ) → 8388608 + b % 8388608 ≤ 8388608 * 2
twice b = omega arith

once : (c : ℕ) → 8388608 ≤ 8388608 + c % 8388608
once c = omega arith

next : (x y : ℕ) → 1 ≤ x → x < y → suc (x - 1) ≤ y - 1
next x y h k = omega arith

first : (b : ℕ) → 8388608 ≤ b → 1 ≤ b / 8388608
first b h = omega arith

pub val_mono : (b c : ℕ) → 8388608 ≤ b → b ≤ c → val b ≤ val c
val_mono b c h k =
    elim (eq-or-lt_of_le (fields_le b c k)) [
      | inl e ↦ subst (λ (x : ℕ). val b ≤ (8388608 + c % 8388608) * 2 ^ (x - 1)) e (mul-le-mul_right (2 ^ (b / 8388608 - 1)) (digits_le b c k e))
      | inr l ↦
          le_trans (mul-le-mul_right (2 ^ (b / 8388608 - 1)) (twice b))
          (le_trans (le_of_eq (mul_assoc 8388608 2 (2 ^ (b / 8388608 - 1)) ∙ ap (λ (x : ℕ). 8388608 * x) (sym (pow-succ' 2 (b / 8388608 - 1)))))
          (le_trans (mul-le-mul_left 8388608 (pow_mono (next (b / 8388608) (c / 8388608) (first b h) l))) (mul-le-mul_right (2 ^ (c / 8388608 - 1)) (once c))))
    ]

pub bits_mono : (b c : ℕ) → 8388608 ≤ b → b ≤ c → c < 2139095040 → T (le (of_bits binary32 b) (of_bits binary32 c))
bits_mono b c h k l =
    le_of_values (of_bits binary32 b) (of_bits binary32 c) (val b) (2 ^ 149) (val c) (2 ^ 149) (pow_pos 149) (pow_pos 149) (bits_is b h (lower b c k l)) (bits_is c (le_trans h k) l)
    (mul-le-mul_right (2 ^ 149) (val_mono b c h k))
  where
    lower : (x y : ℕ) → x ≤ y → y < 2139095040 → x < 2139095040
    lower x y p q = omega arith

-- ---- below the normal patterns, and from the infinity's on
pub is-clear : (b : ℕ) → b < 2147483648 → of_bits binary32 b ≡ of_fields binary32 false (b / 8388608) (b % 8388608)
is-clear b h =
    of_bits_is b
    ∙ ap (λ (s : Bool). of_fields binary32 s (b % 2147483648 / 8388608) (b % 8388608)) (is_false (leb 2147483648 b) (not_T (leb 2147483648 b) (λ (u : T (leb 2147483648 b)). not-le_of_lt h (leb→le 2147483648 b u))))
    ∙ ap (λ (x : ℕ). of_fields binary32 false (x / 8388608) (b % 8388608)) (mod-eq_of_lt h)

pub zero_field : (t : ℕ) → HasValue (of_fields binary32 false 0 t) false (t * 2 ^ 0) (2 ^ 149)
unfolding of_fields
zero_field t = odd_sign 24 false t 0 149

pub sub-below : (b : ℕ) → b < 8388608 → T (le (of_bits binary32 b) (of_bits binary32 8388608))
sub-below b h =
    let e : b / 8388608 ≡ 0 = omega arith in
    let v : HasValue (of_bits binary32 b) false (b % 8388608 * 2 ^ 0) (2 ^ 149) =
    subst (λ (x : Float). HasValue x false (b % 8388608 * 2 ^ 0) (2 ^ 149)) (sym (is-clear b (omega arith) ∙ ap (λ (x : ℕ). of_fields binary32 false x (b % 8388608)) e)) (zero_field (b % 8388608)) in
    let g : b % 8388608 * 2 ^ 0 ≤ 8388608 = omega arith in
    le_of_values (of_bits binary32 b) (of_bits binary32 8388608) (b % 8388608 * 2 ^ 0) (2 ^ 149) (val 8388608) (2 ^ 149) (pow_pos 149) (pow_pos 149) v (bits_is 8388608 (le_of_eq refl) (omega arith)) (mul-le-mul_right (2 ^ 149) g)

no_number : (t : ℕ) → T (finite (of_fields binary32 false 255 t)) → ⊥
unfolding of_fields
no_number t h = go (eqb t 0) h
  where
    go : (b : Bool) → T (finite (cond b (inf false) nan)) → ⊥
    go true u = u
    go false u = u

pub not_finite : (b : ℕ) → 2139095040 ≤ b → b < 2147483648 → T (finite (of_bits binary32 b)) → ⊥
not_finite b h k u =
    let e : b / 8388608 ≡ 255 = omega arith in
    no_number (b % 8388608) (subst (λ (x : Float). T (finite x)) (is-clear b k ∙ ap (λ (x : ℕ). of_fields binary32 false x (b % 8388608)) e) u)

-- ---- from the order of values to that of patterns
module _ (x : Float) (t : T (fits binary32 x)) (s : T (clear x)) (q : T (finite x)) where
  -- the pattern before lo's has a smaller value
  pub pattern_ge : (lo : ℕ) → 8388608 < lo → lo < 2139095040 → T (lt (of_bits binary32 (lo - 1)) (of_bits binary32 lo)) → T (le (of_bits binary32 lo) x) → lo ≤ to_bits binary32 x
  pattern_ge lo h k d l = le_of_not (λ (g : suc (to_bits binary32 x) ≤ lo). lt→nle (of_bits binary32 (lo - 1)) (of_bits binary32 lo) d (le_trans_at (of_bits binary32 lo) x (of_bits binary32 (lo - 1)) l (under g)))
    where
      le_of_not : (suc (to_bits binary32 x) ≤ lo → ⊥) → lo ≤ to_bits binary32 x
      le_of_not f = le_of_lt-suc (lt_of_not-le f)
        where
          le_of_lt-suc : lo < suc (to_bits binary32 x) → lo ≤ to_bits binary32 x
          le_of_lt-suc g = omega arith

      own : of_bits binary32 (to_bits binary32 x) ≡ x
      own = of_bits-to_bits binary32 x t

      under : suc (to_bits binary32 x) ≤ lo → T (le x (of_bits binary32 (lo - 1)))
      under g =
          subst (λ (z : Float). T (le z (of_bits binary32 (lo - 1)))) own
          (elim (split (to_bits binary32 x)) [
            | inl a ↦ le_trans_at (of_bits binary32 (to_bits binary32 x)) (of_bits binary32 8388608) (of_bits binary32 (lo - 1)) (sub-below (to_bits binary32 x) a) (bits_mono 8388608 (lo - 1) (le_of_eq refl) (omega arith) (omega arith))
            | inr a ↦ bits_mono (to_bits binary32 x) (lo - 1) a (omega arith) (omega arith)
          ])
        where
          split : (b : ℕ) → (b < 8388608) ⊎ (8388608 ≤ b)
          split b = go (leb 8388608 b) (leb→le 8388608 b) (nleb→lt 8388608 b)
            where
              go : (c : Bool) → (T c → 8388608 ≤ b) → (T (not c) → b < 8388608) → (b < 8388608) ⊎ (8388608 ≤ b)
              go true f r = inr (f tt)
              go false f r = inl (r tt)

  -- the pattern after hi's has a larger value
  pub pattern-le : (hi : ℕ) → 8388608 ≤ hi → hi + 1 < 2139095040 → T (lt (of_bits binary32 hi) (of_bits binary32 (hi + 1))) → T (le x (of_bits binary32 hi)) → to_bits binary32 x ≤ hi
  pattern-le hi h k d l = le_of_not (λ (g : suc hi ≤ to_bits binary32 x). lt→nle (of_bits binary32 hi) (of_bits binary32 (hi + 1)) d (le_trans_at (of_bits binary32 (hi + 1)) x (of_bits binary32 hi) (over g) l))
    where
      le_of_not : (suc hi ≤ to_bits binary32 x → ⊥) → to_bits binary32 x ≤ hi
      le_of_not f = le_of_lt-suc (lt_of_not-le f)
        where
          le_of_lt-suc : to_bits binary32 x < suc hi → to_bits binary32 x ≤ hi
          le_of_lt-suc g = omega arith

      own : of_bits binary32 (to_bits binary32 x) ≡ x
      own = of_bits-to_bits binary32 x t

      small_enough : to_bits binary32 x < 2139095040
      small_enough = lt_of_not-le (λ (g : 2139095040 ≤ to_bits binary32 x). not_finite (to_bits binary32 x) g (clear-below x t s) (subst (λ (z : Float). T (finite z)) (sym own) q))

      over : suc hi ≤ to_bits binary32 x → T (le (of_bits binary32 (hi + 1)) x)
      over g = subst (λ (z : Float). T (le (of_bits binary32 (hi + 1)) z)) own (bits_mono (hi + 1) (to_bits binary32 x) (omega arith) (omega arith) small_enough)
