-- Residuals: each is at most 128, with a clear sign, and a binary32 value. The logarithm is within 91 of 0 whatever it is taken of, so only the lengths matter.
use Rattle.std.specs.Prelude.{◌≡◌, refl, Bool, false, not, cond, List, [], ◌∷◌, ℕ, zero, suc, ◌≤◌, ◌<◌, T, ltb, leb, pos, length, Float}
use Rattle.std.proofs.Common.{sym, ap, subst, not-suc-le-zero, arith, ltb→lt, leb→le}
use Rattle.std.proofs.Math.Bool.{true}
use Rattle.std.proofs.Math.Dec.{nleb→lt}
use Rattle.std.proofs.Math.ListN.{get_or-eq_default}
use Rattle.std.specs.Float.{nan, inf, fin, binary32}
use Rattle.std.specs.Float.Ieee.{lt, le, fits, is_nan, neg}
use Rattle.std.specs.Float.Ieee.Fits.{add-fits, div-fits, cond-fits}
use Rattle.std.specs.Float.Ieee.Scale.{finite}
use Rattle.float_laws.specs.Order.{le_trans_at, le-neg, finite-between}
use Rattle.float_laws.specs.Rounded.{clear}
use Rattle.float_laws.specs.Laws.{zeroᶠ}
use Rattle.float_laws.specs.Interval.{In, in_finite}
use Rattle.float_laws.specs.Totals.{clear-low}
use Rattle.definition.specs.Floats.{◌⊘◌, maxᶠ, abs, ln_of_bits, ln}
use Rattle.definition.specs.Vectors.{Message, entry}
use Rattle.definition.specs.Directions.{MessageGraph, direction_at, no_direction, message_at}
use Rattle.definition.specs.Messages.{abs_log_ratio, pair_residual, vector_residual, residual}
use Rattle.graph_laws.specs.Invariant.{Holding}
use Rattle.graph_laws.specs.MessageLengths.{AsLong}
use Rattle.message_bounds.specs.Ln.{ln_low, ln_high, ln_in}

-- ---- a value with a clear sign that is at most so much, and a binary32 value
pub record Small (most x : Float) : Type 0 where
  pub holds : T (fits binary32 x)
  pub clear_sign : T (clear x)
  pub small : T (le x most)

pub small_in : (most x : Float) → Small most x → In zeroᶠ most x
small_in most x h = record { low = clear-low x h.clear_sign; high = h.small }

pub small_finite : (most x : Float) → T (finite most) → Small most x → T (finite x)
small_finite most x t h = finite-between zeroᶠ x most tt t (clear-low x h.clear_sign) h.small

pub small_cond : (most x y : Float) (b : Bool) → Small most x → Small most y → Small most (cond b x y)
small_cond most x y true h k = h
small_cond most x y false h k = k

abbrev pub largest_residual : Float
largest_residual = fin false 1 (pos 7)

-- ---- the signless logarithm
signless_fits : (x : Float) → T (fits binary32 x) → T (fits binary32 (abs x))
unfolding abs fits
signless_fits nan t = t
signless_fits (inf s) t = t
signless_fits (fin s zero e) t = t
signless_fits (fin s (suc m) e) t = t

signless_clear : (x : Float) → T (finite x) → T (clear (abs x))
unfolding abs
signless_clear nan f = absurd f
signless_clear (inf s) f = absurd f
signless_clear (fin s m e) f = tt

signless_low : (x : Float) → T (finite x) → T (le ln_low x) → T (le x ln_high) → T (le (abs x) largest_residual)
unfolding abs
signless_low nan f l h = absurd f
signless_low (inf s) f l h = absurd f
signless_low (fin false m e) f l h = le_trans_at (fin false m e) ln_high largest_residual h (unfold le in tt)
signless_low (fin true m e) f l h = le_trans_at (fin false m e) (fin false 89 (pos 0)) largest_residual (unfold neg in le-neg ln_low (fin true m e) l) (unfold le in tt)

signless_small : (x : Float) → T (fits binary32 x) → In ln_low ln_high x → Small largest_residual (abs x)
signless_small x t i =
    let f = in_finite i tt in
    record { holds = signless_fits x t; clear_sign = signless_clear x f; small = signless_low x f i.low i.high }

ln-fits : (x : Float) → T (fits binary32 (ln x))
unfolding ln ln_of_bits
ln-fits x = add-fits binary32 _ _

signless_ln : (x : Float) → T (fits binary32 x) → Small largest_residual (abs (ln x))
signless_ln x t = signless_small (ln x) (ln-fits x) (ln_in x t)

ratio_small : (x y : Float) → Small largest_residual (abs_log_ratio x y)
unfolding abs_log_ratio
ratio_small x y = signless_ln (x ⊘ y) (div-fits binary32 x y)

-- ---- of two entries, and of more
pair_small : (m o : Message) → Small largest_residual (pair_residual m o)
unfolding pair_residual maxᶠ
pair_small m o =
    let x = entry 0 m ⊘ entry 0 o in
    let y = entry 1 m ⊘ entry 1 o in
    signless_ln _ (cond-fits binary32 (is_nan x) y _ (div-fits binary32 _ _) (cond-fits binary32 (lt x y) y x (div-fits binary32 _ _) (div-fits binary32 _ _)))

max_small : (most x y : Float) → Small most x → Small most y → Small most (maxᶠ x y)
unfolding maxᶠ
max_small most x y h k = small_cond most y _ (is_nan x) k (small_cond most y x (lt x y) k h)

more_small : (a : Float) (m o : Message) → Small largest_residual a → Small largest_residual (vector_residual a m o)
unfolding vector_residual
more_small a [] o h = h
more_small a (x ∷ m) [] h = h
more_small a (x ∷ m) (y ∷ o) h = more_small (maxᶠ a (abs_log_ratio x y)) m o (max_small largest_residual a (abs_log_ratio x y) h (ratio_small x y))

-- any finite value is larger than the infinity that it starts from
first_one : (y : Float) → T (finite y) → maxᶠ (inf true) y ≡ y
unfolding maxᶠ is_nan lt
first_one nan f = absurd f
first_one (inf s) f = absurd f
first_one (fin s m e) f = refl

vector_small : (m o : Message) → 0 < length m → 0 < length o → Small largest_residual (vector_residual (inf true) m o)
unfolding vector_residual
vector_small [] o h k = absurd (not-suc-le-zero h)
vector_small (x ∷ m) [] h k = absurd (not-suc-le-zero k)
vector_small (x ∷ m) (y ∷ o) h k =
    let r = ratio_small x y in
    more_small _ m o (subst (Small largest_residual) (sym (first_one (abs_log_ratio x y) (small_finite largest_residual (abs_log_ratio x y) tt r))) r)

-- ---- along a direction
-- a direction whose messages have entries is one of the message graph's
there : (t : MessageGraph) (d : ℕ) → 0 < (direction_at t d).message_length → d < length t.directions
there t d h = go (leb (length t.directions) d) (λ e. leb→le (length t.directions) d e) (λ e. nleb→lt (length t.directions) d e)
  where
    go : (b : Bool) → (T b → length t.directions ≤ d) → (T (not b) → d < length t.directions) → d < length t.directions
    go false f g = g tt
    go true f g = absurd (let z : ⊥ = omega (arith, ap (λ x. x.message_length) (get_or-eq_default t.directions no_direction (f tt))) in z)

-- The residual of two sets whose messages are as long as their directions say.
pub residual_small : (t : MessageGraph) (ms os : List Message) (d : ℕ) → Holding (AsLong t) ms → Holding (AsLong t) os → Small largest_residual (residual t ms os d)
unfolding residual
residual_small t ms os d f g = go (ltb 2 (direction_at t d).message_length) (λ e. ltb→lt 2 (direction_at t d).message_length e)
  where
    go : (b : Bool) → (T b → 2 < (direction_at t d).message_length) → Small largest_residual (elim b as (λ c. Float) [ true ↦ vector_residual (inf true) (message_at d ms) (message_at d os) | false ↦ pair_residual (message_at d ms) (message_at d os) ])
    go false k = pair_small (message_at d ms) (message_at d os)
    go true k =
        let l = k tt in
        let i = there t d (omega arith) in
        vector_small (message_at d ms) (message_at d os) (omega (arith, f d i)) (omega (arith, g d i))
