-- Bounds on the logarithm: at any binary32 value it lies between -89 and 91, and for x between 1 and 2 between 0 and LN_2. Each rests on one computed test over the table.
use Rattle.std.specs.Prelude.{◌≡◌, Bool, not, ◌&&◌, cond, ℕ, suc, ◌/◌, ◌%◌, ◌^◌, ◌≤◌, ◌<◌, pos, negsuc, Float}
use Rattle.std.proofs.Math.Path.{refl, subst}
use Rattle.std.proofs.Common.{sym, inl, inr, eq-or-lt_of_le, arith, lit≤, lit<}
use Rattle.std.proofs.Math.Bool.{true, false}
use Rattle.std.proofs.Math.Dec.{T}
use Rattle.std.specs.Float.{fin}
use Rattle.std.specs.Float.Ieee.{binary32, add, sub, mul, div, le, lt, round, of_int, of_bits, to_bits, minus, fits, is_nan}
use Rattle.std.specs.Float.Ieee.Fits.{and_l, and_r}
use Rattle.std.specs.Float.Ieee.Scale.{finite}
use Rattle.std.specs.Float.Ieee.Positive.{above_of_le}
use Rattle.float_laws.specs.Order.{le_trans_at, le-number-r}
use Rattle.float_laws.specs.Rounded.{clear}
use Rattle.float_laws.specs.Laws.{zeroᶠ, oneᶠ}
use Rattle.float_laws.specs.Interval.{In, in_self, in_finite, in_number, add-test, add_in, mul-test, mul_in}
use Rattle.float_laws.specs.Sums.{of_nat, whole_mono, whole-finite, share_in}
use Rattle.float_laws.specs.Table.{upto, upto-at, chose}
use Rattle.float_laws.specs.Patterns.{clear-below}
use Rattle.float_laws.specs.BitOrder.{pattern_ge, pattern-le}
use Rattle.definition.specs.Floats.{◌⊕◌, ◌⊖◌, ◌⊗◌, ◌⊘◌, twoᶠ, least_normal, ln2, log_table_number, log_table_entry, ln_of_bits, ln}
use Rattle.message_bounds.specs.Bounded.{above-clear}

-- ---- what the logarithm reads: a number that the format holds, with a clear sign
abbrev pub normal : Float → Float
normal x = cond (le least_normal x) x least_normal

module _ (P : Float → Type 0) (x : Float) (p : T (le least_normal x) → P x) (q : P least_normal) where
  by-test : P (normal x)
  by-test = go (le least_normal x) p
    where
      go : (b : Bool) → (T b → P x) → P (cond b x least_normal)
      go true f = f tt
      go false f = q

pub normal-number : (x : Float) → T (not (is_nan (normal x)))
normal-number x = by-test (λ (y : Float). T (not (is_nan y))) x (λ (h : T (le least_normal x)). le-number-r least_normal x h) (unfold is_nan in tt)

pub normal-clear : (x : Float) → T (clear (normal x))
normal-clear x = by-test (λ (y : Float). T (clear y)) x (λ (h : T (le least_normal x)). above-clear x (above_of_le least_normal x tt h)) tt

pub normal-fits : (x : Float) → T (fits binary32 x) → T (fits binary32 (normal x))
normal-fits x t = by-test (λ (y : Float). T (fits binary32 y)) x (λ (h : T (le least_normal x)). t) (unfold fits in tt)

-- ---- the fraction
abbrev fraction : ℕ → Float
fraction f = of_nat f ⊘ of_nat 8192

fraction_in : (f : ℕ) → f < 8192 → In zeroᶠ oneᶠ (fraction f)
fraction_in f h = share_in (of_nat f) (of_nat 8192) (whole-finite f (omega arith)) (unfold of_int in tt) low_end (whole_mono f 8192 (omega arith) (lit≤ tt))
  where
    low_end : T (le zeroᶠ (of_nat f))
    low_end = le_trans_at zeroᶠ (of_nat 0) (of_nat f) (unfold le of_int in tt) (whole_mono 0 f (omega arith) (omega arith))

-- ---- the step from an entry to the next, and the exponent's part: computed
step : ℕ → Float
step i = log_table_entry (suc i) ⊖ log_table_entry i

-- 2 ^ -9
abbrev tick : Float
tick = fin false 1 (negsuc 8)

entry-test : ℕ → Bool
entry-test i = le zeroᶠ (log_table_entry i) && (le (log_table_entry i) oneᶠ && (le zeroᶠ (step i) && le (step i) tick))

entries_pass : T (upto entry-test 1024)
unfolding entry-test step log_table_entry log_table_number le sub round
entries_pass = tt

-- from 0 at i and the step there: between 0 and LN_2
unit_test : ℕ → Bool
unit_test i = add-test zeroᶠ ln2 (zeroᶠ ⊕ log_table_entry i) (zeroᶠ ⊕ log_table_entry i) zeroᶠ (step i) && mul-test zeroᶠ (step i) zeroᶠ oneᶠ (step i) (step i)

units_pass : T (upto unit_test 1024)
unfolding unit_test add-test mul-test step log_table_entry log_table_number add sub round
units_pass = tt

abbrev floor : Float
floor = fin true 89 (pos 0)

abbrev scale : ℕ → Float
scale e = of_int binary32 (minus e 127) ⊗ ln2

scale-test : ℕ → Bool
scale-test e = le floor (scale e) && le (scale e) (fin false 89 (pos 0))

scales_pass : T (upto scale-test 256)
unfolding scale-test le mul of_int
scales_pass = tt

-- ---- what the tests say
entry_in : (i : ℕ) → i < 1024 → In zeroᶠ oneᶠ (log_table_entry i)
unfolding entry-test
entry_in i h =
    let t = upto-at entry-test 1024 entries_pass i h in
    let u = and_r (le zeroᶠ (log_table_entry i)) (le (log_table_entry i) oneᶠ && (le zeroᶠ (step i) && le (step i) tick)) t in
    record { low = and_l (le zeroᶠ (log_table_entry i)) (le (log_table_entry i) oneᶠ && (le zeroᶠ (step i) && le (step i) tick)) t; high = and_l (le (log_table_entry i) oneᶠ) (le zeroᶠ (step i) && le (step i) tick) u }

step_in : (i : ℕ) → i < 1024 → In zeroᶠ tick (step i)
unfolding entry-test
step_in i h =
    let t = upto-at entry-test 1024 entries_pass i h in
    let u = and_r (le zeroᶠ (log_table_entry i)) (le (log_table_entry i) oneᶠ && (le zeroᶠ (step i) && le (step i) tick)) t in
    let v = and_r (le (log_table_entry i) oneᶠ) (le zeroᶠ (step i) && le (step i) tick) u in
    record { low = and_l (le zeroᶠ (step i)) (le (step i) tick) v; high = and_r (le zeroᶠ (step i)) (le (step i) tick) v }

scale_in : (e : ℕ) → e < 256 → In floor (fin false 89 (pos 0)) (scale e)
unfolding scale-test
scale_in e h =
    let t = upto-at scale-test 256 scales_pass e h in
    record { low = and_l (le floor (scale e)) (le (scale e) (fin false 89 (pos 0))) t; high = and_r (le floor (scale e)) (le (scale e) (fin false 89 (pos 0))) t }

-- ---- by a pattern's exponent e, the upper ten digits i of its fraction and the lower thirteen f
abbrev pub ln_high : Float
ln_high = fin false 91 (pos 0)

abbrev pub ln_low : Float
ln_low = floor

abbrev pub ln_parts : ℕ → ℕ → ℕ → Float
ln_parts e i f = scale e ⊕ log_table_entry i ⊕ fraction f ⊗ (log_table_entry (suc i) ⊖ log_table_entry i)

pub bits_are : (b : ℕ) → ln_of_bits b ≡ ln_parts (b / 8388608) (b % 8388608 / 8192) (b % 8192)
unfolding ln_of_bits
bits_are b = refl

ln_parts_in : (e i f : ℕ) → e < 256 → i < 1024 → f < 8192 → In ln_low ln_high (ln_parts e i f)
unfolding step
ln_parts_in e i f he hi hf =
    add_in floor ln_high (add_in floor (fin false 90 (pos 0)) (scale_in e he) (entry_in i hi) (unfold add-test in tt)) (mul_in zeroᶠ tick (fraction_in f hf) (step_in i hi) (unfold mul-test in tt)) (unfold add-test in tt)

-- ---- at the exponent of 1
zero-scale : scale 127 ≡ zeroᶠ
unfolding mul of_int
zero-scale = refl

unit_in : (i f : ℕ) → i < 1024 → f < 8192 → In zeroᶠ ln2 (ln_parts 127 i f)
unfolding unit_test step
unit_in i f hi hf =
    let t = upto-at unit_test 1024 units_pass i hi in
    let A = zeroᶠ ⊕ log_table_entry i in
    let a = add-test zeroᶠ ln2 A A zeroᶠ (step i) in
    let m = mul-test zeroᶠ (step i) zeroᶠ oneᶠ (step i) (step i) in
    let s : In zeroᶠ (fin false 1 (pos 1)) A = add_in zeroᶠ (fin false 1 (pos 1)) (in_self zeroᶠ (unfold is_nan in tt)) (entry_in i hi) (unfold add-test in tt) in
    subst (λ (z : Float). In zeroᶠ ln2 (z ⊕ log_table_entry i ⊕ fraction f ⊗ step i)) (sym zero-scale)
    (add_in zeroᶠ ln2 (in_self A (in_number s)) (mul_in zeroᶠ (step i) (fraction_in f hf) (in_self (step i) (in_number (step_in i hi))) (and_r a m t)) (and_l a m t))

-- ---- at any x: what the format holds
pub ln_in : (x : Float) → T (fits binary32 x) → In ln_low ln_high (ln x)
unfolding ln
ln_in x t =
    let b = to_bits binary32 (normal x) in
    let h : b < 2 ^ 31 = clear-below (normal x) (normal-fits x t) (normal-clear x) in
    subst (λ (z : Float). In ln_low ln_high z) (sym (bits_are b)) (ln_parts_in (b / 8388608) (b % 8388608 / 8192) (b % 8192) (omega arith) (omega arith) (omega arith))

-- ---- at x from 1 to 2
bits_of_one : of_bits binary32 1065353216 ≡ oneᶠ
unfolding of_bits
bits_of_one = refl

bits_of_two : of_bits binary32 1073741824 ≡ twoᶠ
unfolding of_bits
bits_of_two = refl

ln_of_two : In zeroᶠ ln2 (ln_of_bits 1073741824)
unfolding ln_of_bits log_table_entry log_table_number add mul sub div of_int le round
ln_of_two = record { low = tt; high = tt }

unit_bits : (b : ℕ) → 1065353216 ≤ b → b ≤ 1073741824 → In zeroᶠ ln2 (ln_of_bits b)
unit_bits b h k =
    elim (eq-or-lt_of_le k) [
      | inl e ↦ subst (λ (n : ℕ). In zeroᶠ ln2 (ln_of_bits n)) (sym e) ln_of_two
      | inr l ↦ subst (λ (z : Float). In zeroᶠ ln2 z) (sym (bits_are b)) (subst (λ (n : ℕ). In zeroᶠ ln2 (ln_parts n (b % 8388608 / 8192) (b % 8192))) (sym (field b h l)) (unit_in (b % 8388608 / 8192) (b % 8192) (omega arith) (omega arith)))
    ]
  where
    field : (b : ℕ) → 1065353216 ≤ b → b < 1073741824 → b / 8388608 ≡ 127
    field b h l = omega arith

pub ln_unit_in : (x : Float) → T (fits binary32 x) → In oneᶠ twoᶠ x → In zeroᶠ ln2 (ln x)
unfolding ln
ln_unit_in x t i =
    let n : T (le least_normal x) = le_trans_at least_normal oneᶠ x (unfold le in tt) i.low in
    let q : T (finite x) = in_finite i tt in
    let s : T (clear x) = above-clear x (above_of_le least_normal x tt n) in
    let lo : 1065353216 ≤ to_bits binary32 x = pattern_ge x t s q 1065353216 (lit< tt) (lit< tt) (unfold lt of_bits in tt) (subst (λ (z : Float). T (le z x)) (sym bits_of_one) i.low) in
    let hi : to_bits binary32 x ≤ 1073741824 = pattern-le x t s q 1073741824 (lit≤ tt) (lit< tt) (unfold lt of_bits in tt) (subst (λ (z : Float). T (le x z)) (sym bits_of_two) i.high) in
    subst (λ (z : Float). In zeroᶠ ln2 (ln_of_bits (to_bits binary32 z))) (chose (le least_normal x) x least_normal (yes (le least_normal x) n)) (unit_bits (to_bits binary32 x) lo hi)
  where
    yes : (b : Bool) → T b → b ≡ true
    yes true u = refl
    yes false u = absurd u
