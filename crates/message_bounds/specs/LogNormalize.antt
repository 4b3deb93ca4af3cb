-- `logNormalise` of two finite logarithms takes the exponential of nothing above 0; and the larger of two numbers by tests.
use Rattle.std.specs.Prelude.{◌≡◌, refl, Bool, true, not, cond, T, Float}
use Rattle.std.proofs.Common.{sym, subst}
use Rattle.std.proofs.Math.Bool.{false}
use Rattle.std.specs.Float.{nan, inf, fin, binary32}
use Rattle.std.specs.Float.Ieee.{sub, lt, le, is_nan}
use Rattle.std.specs.Float.Ieee.Fits.{add-fits}
use Rattle.std.specs.Float.Ieee.Scale.{finite}
use Rattle.float_laws.specs.Order.{le_trans_at, le-refl-at, le-number-l, lt→le, nlt→le, finite_number}
use Rattle.float_laws.specs.Laws.{zeroᶠ, oneᶠ, sub-at-most-zero}
use Rattle.float_laws.specs.Ops.{sub_same}
use Rattle.float_laws.specs.Interval.{In, in_self, in_finite, add-test, add_in}
use Rattle.float_laws.specs.Table.{is_true, is_false}
use Rattle.definition.specs.Floats.{◌⊕◌, ◌⊖◌, twoᶠ, ln2, maxᶠ, ln, exp}
use Rattle.message_bounds.specs.Ln.{ln_unit_in}
use Rattle.message_bounds.specs.Exp.{exp_in, exp-zero}

-- the logarithm that both are divided by
abbrev pub log_sum : Float → Float → Float
log_sum a b = ln (exp (a ⊖ maxᶠ a b) ⊕ exp (b ⊖ maxᶠ a b))

-- of two numbers the larger, by one test
max-number : (a b : Float) → T (not (is_nan a)) → cond (lt a b) b a ≡ maxᶠ a b
unfolding maxᶠ
max-number a b h = go (is_nan a) h
  where
    go : (t : Bool) → T (not t) → cond (lt a b) b a ≡ cond t b (cond (lt a b) b a)
    go true h = absurd h
    go false h = refl

-- of a number and NaN the number; a test of x ≤ x tells whether x is a number
pub max-tested : (a b : Float) → le a a ≡ true → cond (lt a b) b a ≡ maxᶠ a b
max-tested a b e = max-number a b (le-number-l a a (is_true (le a a) e))

pub max_other : (a b : Float) → le a a ≡ false → b ≡ maxᶠ a b
unfolding maxᶠ
max_other a b e = go (is_nan a) refl
  where
    clash : (t : Bool) → T t → T (not t) → ⊥
    clash true h g = g
    clash false h g = h

    go : (t : Bool) → is_nan a ≡ t → b ≡ cond t b (cond (lt a b) b a)
    go true f = refl
    go false f = absurd (clash (le a a) (le-refl-at a (is_false (is_nan a) f)) (is_false (le a a) e))

-- ---- x - y ≤ 0 for x ≤ 0, an infinity included, and 0 ≤ y
sub_stays : (x y : Float) → T (le x zeroᶠ) → T (finite y) → T (le zeroᶠ y) → T (le (x ⊖ y) zeroᶠ)
sub_stays nan y h q k = unfold le in absurd (unfold le in h)
sub_stays (inf false) y h q k = absurd (unfold le in h)
sub_stays (inf true) nan h q k = absurd q
sub_stays (inf true) (inf t) h q k = absurd q
sub_stays (inf true) (fin t n d) h q k = unfold sub le in tt
sub_stays (fin s m e) y h q k = sub-at-most-zero (fin s m e) y tt q (le_trans_at (fin s m e) zeroᶠ y h k)

module _ (a b : Float) (p : T (finite a)) (q : T (finite b)) where
  abbrev m : Float
  m = maxᶠ a b

  is-chosen : cond (lt a b) b a ≡ m
  is-chosen = max-number a b (finite_number a p)

  -- ---- the two differences from the larger
  pub left_below : T (le (a ⊖ maxᶠ a b) zeroᶠ)
  left_below = subst (λ (x : Float). T (le (a ⊖ x) zeroᶠ)) is-chosen (go (lt a b) (λ (t : T (lt a b)). lt→le a b t))
    where
      go : (t : Bool) → (T t → T (le a b)) → T (le (a ⊖ cond t b a) zeroᶠ)
      go true f = sub-at-most-zero a b p q (f tt)
      go false f = sub-at-most-zero a a p p (le-refl-at a (finite_number a p))

  pub right_below : T (le (b ⊖ maxᶠ a b) zeroᶠ)
  right_below = subst (λ (x : Float). T (le (b ⊖ x) zeroᶠ)) is-chosen (go (lt a b) (λ (t : T (not (lt a b))). nlt→le a b (finite_number a p) (finite_number b q) t))
    where
      go : (t : Bool) → (T (not t) → T (le b a)) → T (le (b ⊖ cond t b a) zeroᶠ)
      go true f = sub-at-most-zero b b q q (le-refl-at b (finite_number b q))
      go false f = sub-at-most-zero b a q p (f tt)

  -- one of the two exponentials is 1
  sum_in : In oneᶠ twoᶠ (exp (a ⊖ m) ⊕ exp (b ⊖ m))
  sum_in = subst (λ (x : Float). In oneᶠ twoᶠ (exp (a ⊖ x) ⊕ exp (b ⊖ x))) is-chosen (go (lt a b) (subst (λ (x : Float). T (le (a ⊖ x) zeroᶠ)) (sym is-chosen) left_below) (subst (λ (x : Float). T (le (b ⊖ x) zeroᶠ)) (sym is-chosen) right_below))
    where
      one-is : (x : Float) → T (finite x) → In oneᶠ oneᶠ (exp (x ⊖ x))
      one-is x r = subst (λ (z : Float). In oneᶠ oneᶠ (exp z)) (sym (sub_same x r)) (subst (λ (z : Float). In oneᶠ oneᶠ z) (sym exp-zero) (in_self oneᶠ (unfold is_nan in tt)))

      go : (t : Bool) → T (le (a ⊖ cond t b a) zeroᶠ) → T (le (b ⊖ cond t b a) zeroᶠ) → In oneᶠ twoᶠ (exp (a ⊖ cond t b a) ⊕ exp (b ⊖ cond t b a))
      go true l r = add_in oneᶠ twoᶠ (exp_in (a ⊖ b) l) (one-is b q) (unfold add-test in tt)
      go false l r = add_in oneᶠ twoᶠ (one-is a p) (exp_in (b ⊖ a) r) (unfold add-test in tt)

  log_sum_in : In zeroᶠ ln2 (log_sum a b)
  log_sum_in = ln_unit_in (exp (a ⊖ m) ⊕ exp (b ⊖ m)) (add-fits binary32 (exp (a ⊖ m)) (exp (b ⊖ m))) sum_in

  -- ---- the two differences less the logarithm of the sum
  rest_below : (x : Float) → T (le (x ⊖ m) zeroᶠ) → T (le (x ⊖ m ⊖ log_sum a b) zeroᶠ)
  rest_below x h = sub_stays (x ⊖ m) (log_sum a b) h (in_finite log_sum_in tt) log_sum_in.low

  pub left-rest : T (le (a ⊖ maxᶠ a b ⊖ log_sum a b) zeroᶠ)
  left-rest = rest_below a left_below

  pub right_rest : T (le (b ⊖ maxᶠ a b ⊖ log_sum a b) zeroᶠ)
  right_rest = rest_below b right_below
