-- `array_utils::ln::FloatBits::whole_part` meets its contract: from 1 to 126 the exponent's field goes from 127 to 133.
use mathlib.Core.Path.{◌≡◌, refl, sym, subst}
use mathlib.Core.Bool.{true, false}
use Prim.Native.Nat.{◌≤◌, ◌<◌}
use native.Mathlib.Omega.{arith}
use lib.Dec.{T, lit≤, lit<}
use lib.IntN.{pos}
use lib.Ieee.{Float, fin, binary32, le, lt, fits, is_nan, of_bits, to_bits, to_unsigned}
use lib.Ieee.Positive.{above_of_le}
use Rattle.float_laws.specs.Order.{nlt→le, le_trans_at}
use Rattle.float_laws.specs.Rounded.{clear}
use Rattle.float_laws.specs.Interval.{In, in_finite, in_number}
use Rattle.float_laws.specs.Table.{is_true, is_false}
use Rattle.float_laws.specs.Patterns.{whole-part-lt}
use Rattle.float_laws.specs.BitOrder.{pattern_ge, pattern-le}
use Rattle.float_laws.specs.WholePart.{whole-by-digits}
use Rattle.definition.specs.Floats.{zeroᶠ, oneᶠ}
use Rattle.message_bounds.specs.Bounded.{above-clear}
use Rattle.array_utils.proofs.ln.FloatBits.whole_part.Goals as goal
use Rattle.array_utils.proofs.ln.FloatBits.whole_part.Goals.{Else-t, Start}

abbrev most : Float
most = fin false 126 (pos 0)

-- ---- below 1
none : (t : Float) → In zeroᶠ most t → lt t oneᶠ ≡ true → 0 ≡ to_unsigned 32 t
none t i e = let l : to_unsigned 32 t < 1 = whole-part-lt 32 1 t (lit< tt) (in_finite i tt) (is_true (lt t oneᶠ) e) in omega arith

-- ---- from 1 on: the patterns of 1 and of 126
is_one : of_bits binary32 1065353216 ≡ oneᶠ
unfolding of_bits
is_one = refl

module _ (t : Float) (f : T (fits binary32 t)) (i : In zeroᶠ most t) (e : lt t oneᶠ ≡ false) where
  from_one : T (le oneᶠ t)
  from_one = nlt→le t oneᶠ (in_number i) (unfold is_nan in tt) (is_false (lt t oneᶠ) e)

  is-clear : T (clear t)
  is-clear = above-clear t (above_of_le oneᶠ t tt from_one)

  from : 1065353216 ≤ to_bits binary32 t
  from = pattern_ge t f is-clear (in_finite i tt) 1065353216 (lit< tt) (lit< tt) (unfold lt of_bits in tt) (subst (λ (z : Float). T (le z t)) (sym is_one) from_one)

  upto : to_bits binary32 t ≤ 1123811328
  upto = pattern-le t f is-clear (in_finite i tt) 1123811328 (lit≤ tt) (lit< tt) (unfold lt of_bits in tt) (le_trans_at t most (of_bits binary32 1123811328) i.high (unfold le of_bits in tt))

-- what owning an `f32` tells: the format holds it
held : (c : Start) → T (fits binary32 c.args.t)
held c = subst T (sym c.well_formed.0.1) tt

low : (c : Else-t) → 1065353216 ≤ to_bits binary32 c.args.t
unfolding of_bits
low c = from c.args.t (held c.before) c.requires c.if-t.false

high : (c : Else-t) → to_bits binary32 c.args.t ≤ 1123811328
unfolding of_bits
high c = upto c.args.t (held c.before) c.requires c.if-t.false

pub returns-then-t : goal.returns-then-t
unfolding of_bits
returns-then-t c = none c.args.t c.requires c.if-t.true

pub overflow_sub-result : goal.overflow_sub-result
overflow_sub-result c = omega (arith, high c)

pub overflow_shr-result : goal.overflow_shr-result
overflow_shr-result c = omega (arith, low c)

pub returns : goal.returns
returns c = sym (whole-by-digits c.args.t (held c.before) (omega (arith, low c)) (omega (arith, high c)))
