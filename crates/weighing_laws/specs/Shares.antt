-- A share is the whole part of an exact product (SharesWhole), no more than the weight, and what a shift of the belief's digits gives.
use Rattle.std.specs.Prelude.{ℕ, suc, ◌+◌, ◌-◌, ◌*◌, ◌/◌, ◌%◌, ◌^◌, ◌≤◌, ◌<◌, ◌≡◌, refl, true, false, T, negsuc, Float}
use Rattle.std.proofs.Common.{lt_of_le_of_lt, mul_assoc, mul-le-mul_left, mul-le-mul_right, div-mul-le_self, div-lt_iff_lt-mul, suc-mul, arith, sym, ap, ◌∙◌, subst, true≢false, ltb→lt, lit≤, lit<, pow_pos}
use Rattle.std.proofs.Math.Nat.{div-eq_of_lt}
use Rattle.std.specs.Float.{nan, inf, fin, binary32}
use Rattle.std.specs.Float.Ieee.{up, down, le, lt, fits, is_nan, of_bits, to_bits}
use Rattle.std.specs.Float.Ieee.Bits.{of_bits-to_bits}
use Rattle.std.specs.Float.Ieee.Exact.{HasValue}
use Rattle.std.specs.Float.Ieee.Fits.{down_pos}
use Rattle.std.specs.Float.Ieee.Nearest.{div_same}
use Rattle.std.specs.Float.Ieee.Positive.{above, above_of_le}
use Rattle.std.specs.Float.Ieee.Scale.{finite}
use Rattle.definition.specs.Floats.{zeroᶠ, oneᶠ}
use Rattle.definition.specs.Tonnage.{share}
use Rattle.claims.specs.Tonnage.{SharesWhole}
use Rattle.float_laws.specs.Order.{le→Le, nlt→le}
use Rattle.float_laws.specs.Rounded.{clear}
use Rattle.float_laws.specs.Interval.{In, in_finite, in_number}
use Rattle.float_laws.specs.Table.{is_true, is_false}
use Rattle.float_laws.specs.BitOrder.{val, bits_is, pattern_ge, pattern-le}
use Rattle.float_laws.specs.WholePart.{shifted}

-- of a value a / c
pub share_of_lem : (w : ℕ) (x : Float) (a c : ℕ) → 0 < c → HasValue x false a c → share w x ≡ w * a / c
unfolding share
share_of_lem w nan a c C h = absurd h
share_of_lem w (inf s) a c C h = absurd h
share_of_lem w (fin true m e) a c C h = absurd (true≢false h.0)
share_of_lem w (fin false m e) a c C h =
    div_same (w * (m * up e)) (down e) (w * a) c (down_pos e) C (mul_assoc w (m * up e) c ∙ ap (λ (n : ℕ). w * n) h.1 ∙ sym (mul_assoc w a (down e)))

pub shares_whole : SharesWhole
shares_whole w x a c C h =
    let e = share_of_lem w x a c C h in
    subst (λ (q : ℕ). (q * c ≤ w * a) × (w * a < suc q * c)) (sym e) (div-mul-le_self (w * a) c, (div-lt_iff_lt-mul C).0 (omega arith))

-- ---- at most the weight

whole_le : (a d w : ℕ) → 0 < d → a ≤ w * d → a / d ≤ w
whole_le a d w D k = let l : a / d < suc w = (div-lt_iff_lt-mul D).1 (let e : suc w * d ≡ w * d + d = simp suc-mul in omega arith) in omega arith

pub share-le : (w : ℕ) (x : Float) → T (finite x) → T (le x oneᶠ) → share w x ≤ w
unfolding share
share-le w nan p h = absurd p
share-le w (inf s) p h = absurd p
share-le w (fin true m e) p h = omega arith
share-le w (fin false m e) p h =
    let k : m * up e ≤ down e = omega (arith, le→Le (fin false m e) oneᶠ tt tt h) in
    whole_le (w * (m * up e)) (down e) w (down_pos e) (mul-le-mul_left w k)

-- ---- below 2 ^ -21 no weight has a whole gram

abbrev pub least : Float
least = fin false 1 (negsuc 20)

pub share-none : (w : ℕ) (x : Float) → w ≤ 2000000 → lt x least ≡ true → share w x ≡ 0
unfolding share lt
share-none w nan k h = refl
share-none w (inf s) k h = refl
share-none w (fin true m e) k h = refl
share-none w (fin false m e) k h =
    let q : m * up e * 2097152 < down e = omega (arith, ltb→lt (m * up e * 2 ^ 21) (1 * 1 * down e) (is_true _ h)) in
    div-eq_of_lt (lt_of_le_of_lt (mul-le-mul_right (m * up e) k) (omega arith))

-- ---- from there to 1: the patterns of 2 ^ -21 and of 1, and the product of the digits shifted

is-least : of_bits binary32 889192448 ≡ least
unfolding of_bits
is-least = refl

is_one : of_bits binary32 1065353216 ≡ oneᶠ
unfolding of_bits
is_one = refl

above-clear : (x : Float) → T (above x) → T (clear x)
above-clear nan h = h
above-clear (inf s) h = h
above-clear (fin true m e) h = h
above-clear (fin false m e) h = tt

module _ (x : Float) (f : T (fits binary32 x)) (i : In zeroᶠ oneᶠ x) (e : lt x least ≡ false) where
  from-least : T (le least x)
  from-least = nlt→le x least (in_number i) (unfold is_nan in tt) (is_false (lt x least) e)

  no_sign : T (clear x)
  no_sign = above-clear x (above_of_le least x tt from-least)

  pub bits-from : 889192448 ≤ to_bits binary32 x
  bits-from =
      let h = subst (λ (z : Float). T (le z x)) (sym is-least) from-least in
      pattern_ge x f no_sign (in_finite i tt) 889192448 (lit< tt) (lit< tt) (unfold lt of_bits in tt) h

  pub bits-upto : to_bits binary32 x ≤ 1065353216
  bits-upto =
      let h = subst (λ (z : Float). T (le x z)) (sym is_one) i.high in
      pattern-le x f no_sign (in_finite i tt) 1065353216 (lit≤ tt) (lit< tt) (unfold lt of_bits in tt) h

  pub share-by-digits : (w : ℕ) → share w x ≡ w * (2 ^ 23 + to_bits binary32 x % 2 ^ 23) / 2 ^ (150 - to_bits binary32 x / 2 ^ 23)
  share-by-digits w =
      let b = to_bits binary32 x in
      let d = 2 ^ 23 + b % 2 ^ 23 in
      let l = bits-from in
      let u = bits-upto in
      let v = subst (λ (z : Float). HasValue z false (val b) (2 ^ 149)) (of_bits-to_bits binary32 x f) (bits_is b (omega arith) (omega arith)) in
      share_of_lem w x (val b) (2 ^ 149) (pow_pos 149) v
      ∙ ap (λ (n : ℕ). n / 2 ^ 149) (sym (mul_assoc w d (2 ^ (b / 2 ^ 23 - 1))))
      ∙ shifted (w * d) (b / 2 ^ 23) (omega arith) (omega arith)
