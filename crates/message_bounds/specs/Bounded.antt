-- A message whose entries are binary32 values, each between c and 1; and settings in their ranges.
use Rattle.std.proofs.Common.{subst}
use Rattle.std.specs.Prelude.{Bool, true, false, cond, List, [], ◌∷◌, map, ℕ, zero, suc, T, replicate, Float}
use Rattle.std.specs.Float.{nan, inf, fin, binary32}
use Rattle.std.specs.Float.Ieee.{le, lt, fits, is_nan}
use Rattle.std.specs.Float.Ieee.Fits.{and_i, sub-fits, cond-fits}
use Rattle.std.specs.Float.Ieee.Positive.{above}
use Rattle.float_laws.specs.Rounded.{clear}
use Rattle.float_laws.specs.Laws.{zeroᶠ, oneᶠ}
use Rattle.float_laws.specs.Interval.{In, in_self, in_number, in_wider, raised_in, sub-test, sub_in}
use Rattle.float_laws.specs.Totals.{AtMost, AllAtMost, at_most_in}
use Rattle.float_laws.specs.Sums.{one-is}
use Rattle.definition.specs.Floats.{c, halfᶠ, ◌⊖◌, avoid_underflow, clamp}
use Rattle.definition.specs.Vectors.{Message, binary, avoid_underflow_all}
use Rattle.definition.specs.Settings.{Settings}
use Rattle.definition.specs.FactorGraph.{grade}
use Rattle.definition.specs.Messages.{initial_belief}
use Rattle.definition.specs.Refusals.{least_probability, greatest_probability}
use Rattle.claims.specs.Parts.{Within}

-- ---- what lies above a positive number is clear of sign
pub above-clear : (x : Float) → T (above x) → T (clear x)
above-clear nan h = h
above-clear (inf s) h = h
above-clear (fin true m e) h = h
above-clear (fin false m e) h = tt

-- ---- one entry, and a message
pub record BoundedEntry (x : Float) : Type 0 where
  pub holds : T (fits binary32 x)
  pub inside : In c oneᶠ x

abbrev pub BoundedEntries : Message → Type 0
BoundedEntries [] = Unit {0}
BoundedEntries (x ∷ m) = BoundedEntry x × BoundedEntries m

pub within_of : (m : Message) → BoundedEntries m → Within m
within_of [] h = tt
within_of (x ∷ m) h = (and_i (le c x) (le x oneᶠ) h.0.inside.low h.0.inside.high, within_of m h.1)

-- ---- the settings: check number 3
pub record Ranged (x : Float) : Type 0 where
  pub holds : T (fits binary32 x)
  pub inside : In least_probability greatest_probability x

pub record InRange (s : Settings) : Type 0 where
  pub alpha : Ranged s.alpha
  pub beta : Ranged s.beta
  pub prior : Ranged s.prior

pub rest_in : (x : Float) → Ranged x → In least_probability greatest_probability (oneᶠ ⊖ x)
rest_in x r = sub_in least_probability greatest_probability (in_self oneᶠ (unfold is_nan in tt)) r.inside (unfold sub-test in tt)

pub rest_ranged : (x : Float) → Ranged x → Ranged (oneᶠ ⊖ x)
rest_ranged x r = record { holds = sub-fits binary32 oneᶠ x; inside = rest_in x r }

ranged_entry : (x : Float) → Ranged x → BoundedEntry x
ranged_entry x r = record { holds = r.holds; inside = in_wider c oneᶠ r.inside (unfold le in tt) }

-- ---- the first three facts
one_entry : BoundedEntry oneᶠ
one_entry = record { holds = unfold fits in tt; inside = record { low = unfold le in tt; high = unfold le in tt } }

pub ones_bounded : (n : ℕ) → BoundedEntries (replicate n oneᶠ)
ones_bounded zero = tt
ones_bounded (suc n) = (one_entry, ones_bounded n)

half-entry : BoundedEntry halfᶠ
half-entry = record { holds = unfold fits in tt; inside = record { low = unfold le in tt; high = unfold le in tt } }

pub halves_bounded : BoundedEntries (binary halfᶠ halfᶠ)
halves_bounded = (half-entry, (half-entry, tt))

pub prior_bounded : (s : Settings) → InRange s → BoundedEntries (initial_belief s grade)
unfolding initial_belief
prior_bounded s r = (ranged_entry (oneᶠ ⊖ s.prior) (rest_ranged s.prior r.prior), (ranged_entry s.prior r.prior, tt))

-- ---- raising and clamping
c-fits : T (fits binary32 c)
unfolding fits
c-fits = tt

pub avoid_underflow-entry : (x : Float) → T (fits binary32 x) → In zeroᶠ oneᶠ x → BoundedEntry (avoid_underflow x)
unfolding avoid_underflow
avoid_underflow-entry x t i = record { holds = cond-fits binary32 (lt x c) c x c-fits t; inside = raised_in c oneᶠ x (in_number i) (unfold le in tt) i.high }

-- what lies between 0 and 1 is not above 1, so only its lower end is moved
pub clamp-entry : (x : Float) → T (fits binary32 x) → In zeroᶠ oneᶠ x → BoundedEntry (clamp x)
unfolding clamp
clamp-entry x t i = go (lt oneᶠ x)
  where
    go : (b : Bool) → BoundedEntry (cond b oneᶠ (avoid_underflow x))
    go true = one_entry
    go false = avoid_underflow-entry x t i

-- a list of nonnegative and bounded values, raised or clamped
pub at_most-range : (x : Float) → AtMost 1 x → In zeroᶠ oneᶠ x
at_most-range x n = subst (λ (z : Float). In zeroᶠ z x) one-is (at_most_in 1 x n)

pub avoid_underflow_bounded : (l : List Float) → AllAtMost 1 l → BoundedEntries (avoid_underflow_all l)
unfolding avoid_underflow_all
avoid_underflow_bounded [] n = tt
avoid_underflow_bounded (x ∷ l) n = (avoid_underflow-entry x n.0.held (at_most-range x n.0), avoid_underflow_bounded l n.1)

pub clamped_bounded : (l : List Float) → AllAtMost 1 l → BoundedEntries (map clamp l)
clamped_bounded [] n = tt
clamped_bounded (x ∷ l) n = (clamp-entry x n.0.held (at_most-range x n.0), clamped_bounded l n.1)
