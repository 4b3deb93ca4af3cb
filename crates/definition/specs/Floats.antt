-- binary32: the four operations, the constants, and document 01's stand-ins for the logarithm, the exponential and the power
-- (`ln_from_table` of src/array_utils.rs; `exp` and `powi` of Rust's f32). Every operation is lib.Ieee's at binary32, rounded once.
use Rattle.std.specs.Prelude.{ℕ, zero, suc, ◌+◌, ◌*◌, ◌/◌, ◌%◌, ◌^◌, true, false, cond, pos, negsuc, eqb, Float}
use Rattle.std.specs.Float.{nan, inf, fin, binary32}
use Rattle.std.specs.Float.Ieee.{add, sub, mul, div, neg, lt, le, is_nan, round, of_int, to_unsigned, to_bits, minus}

infixl 68 ◌⊕◌
infixl 68 ◌⊖◌
infixl 70 ◌⊗◌
infixl 70 ◌⊘◌
abbrev pub ◌⊕◌ : Float → Float → Float
x ⊕ y = add binary32 x y

abbrev pub ◌⊖◌ : Float → Float → Float
x ⊖ y = sub binary32 x y

abbrev pub ◌⊗◌ : Float → Float → Float
x ⊗ y = mul binary32 x y

abbrev pub ◌⊘◌ : Float → Float → Float
x ⊘ y = div binary32 x y

-- ---- numbers. `fin s m e` is m * 2 ^ e, negative where s is true

abbrev pub zeroᶠ : Float
zeroᶠ = fin false 0 (pos 0)

abbrev pub halfᶠ : Float
halfᶠ = fin false 1 (negsuc 0)

abbrev pub oneᶠ : Float
oneᶠ = fin false 1 (pos 0)

abbrev pub twoᶠ : Float
twoᶠ = fin false 1 (pos 1)

-- the least normal number, 2 ^ -126, and the largest finite one, (2 ^ 24 - 1) * 2 ^ 104
abbrev pub least_normal : Float
least_normal = fin false 1 (negsuc 125)

abbrev pub largest_finite : Float
largest_finite = fin false 16777215 (pos 104)

-- c of document 01, the number nearest 10 ^ -30 (`Constants` has the test): the least entry of a message
abbrev pub c : Float
c = fin false 332307 (negsuc 117)

-- the bits 3F317218 and 3FB8AA3B, and -87
abbrev pub ln2 : Float
ln2 = fin false 1453635 (negsuc 20)

abbrev pub log2e : Float
log2e = fin false 12102203 (negsuc 22)

abbrev pub minus87 : Float
minus87 = fin true 87 (pos 0)

-- the whole number n; and the number nearest a / b
abbrev pub of_nat : ℕ → Float
of_nat n = of_int binary32 (pos n)

abbrev pub ratio : ℕ → ℕ → Float
ratio a b = round binary32 false a b

-- ---- small things

-- `f32::max`: the larger of two, and of a number and NaN the number
unfoldable pub maxᶠ : Float → Float → Float
maxᶠ x y = cond (is_nan x) y (cond (lt x y) y x)

-- `f32::abs`: x with its sign off
unfoldable pub abs : Float → Float
abs nan = nan
abs (inf s) = inf false
abs (fin s m e) = fin false m e

-- `avoid_underflow`, of one entry: a value below c becomes c
unfoldable pub avoid_underflow : Float → Float
avoid_underflow x = cond (lt x c) c x

-- how an entry of a factor's message is stored: below c as c, above 1 as 1
unfoldable pub clamp : Float → Float
clamp x = cond (lt oneᶠ x) oneᶠ (avoid_underflow x)

-- ---- the logarithm

-- Entry i of LOG_TABLE is this whole number over 2 ^ 24: the whole part of 2 ^ 25 times the sum over k = 0 to 6 of z ^ (2k + 1) / (2k + 1),
-- with z = i / (2048 + i). All seven terms stand over the common denominator 45045 * (2048 + i) ^ 13.
unfoldable pub log_table_number : ℕ → ℕ
log_table_number i =
    let d = 2048 + i in
    2 ^ 25 * (45045 * i * d ^ 12 + 15015 * i ^ 3 * d ^ 10 + 9009 * i ^ 5 * d ^ 8 + 6435 * i ^ 7 * d ^ 6 + 5005 * i ^ 9 * d ^ 4 + 4095 * i ^ 11 * d ^ 2 + 3465 * i ^ 13) / (45045 * d ^ 13)

unfoldable pub log_table_entry : ℕ → Float
log_table_entry i = ratio (log_table_number i) (2 ^ 24)

-- The logarithm of the number with the bits b, which is normal and positive: the exponent's share, the table's entry, and the way to the next entry.
unfoldable pub ln_of_bits : ℕ → Float
ln_of_bits b =
    let i = b % 2 ^ 23 / 2 ^ 13 in
    let t = log_table_entry i in
    of_int binary32 (minus (b / 2 ^ 23) 127) ⊗ ln2 ⊕ t ⊕ of_nat (b % 2 ^ 13) ⊘ of_nat (2 ^ 13) ⊗ (log_table_entry (suc i) ⊖ t)

-- `ln_from_table`: what lies below the least normal number, and NaN, counts as that least number
unfoldable pub ln : Float → Float
ln x = ln_of_bits (to_bits binary32 (cond (le least_normal x) x least_normal))

-- ---- the exponential. Its domain is y ≤ 0: every caller subtracts a maximum first, and above 0 the value below means nothing.

-- h starts at 1; for j from the first argument down to 1, h becomes 1 + (r * h) / j
unfoldable pub exp_series : ℕ → Float → Float → Float
exp_series zero r h = h
exp_series (suc j) r h = exp_series j r (oneᶠ ⊕ r ⊗ h ⊘ of_nat (suc j))

-- h * 2 ^ -n, of r = y + n * LN_2
unfoldable pub exp_reduced : ℕ → Float → Float
exp_reduced n y = exp_series 7 (y ⊕ of_nat n ⊗ ln2) oneᶠ ⊗ ratio 1 (2 ^ n)

-- 0 if y < -87; else n is the whole part of the float -y * LOG2_E
unfoldable pub exp : Float → Float
exp y = let e = exp_reduced (to_unsigned 32 (neg y ⊗ log2e)) y in cond (lt y minus87) zeroᶠ e

-- ---- the power

-- a times b ^ n, by n's binary digits from the lowest: a is multiplied where the digit is set, then b is squared. The first argument is no less than n.
unfoldable pub powi_from : ℕ → Float → Float → ℕ → Float
powi_from zero a b n = a
powi_from (suc d) a b zero = a
powi_from (suc d) a b (suc n) = powi_from d (cond (eqb (suc n % 2) 1) (a ⊗ b) a) (b ⊗ b) (suc n / 2)

unfoldable pub powi : Float → ℕ → Float
powi x n = powi_from n oneᶠ x n
