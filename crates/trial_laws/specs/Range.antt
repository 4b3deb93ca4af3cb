-- A setting of 1 to 1,023 1,024ths is a float in number 3's range: computed for each.
use Rattle.std.specs.Prelude.{ℕ, ◌<◌, ◌≡◌, refl, Bool, true, false, not, ◌&&◌, ◌||◌, T, leb}
use Rattle.std.proofs.Common.{arith, sym, subst, true≢false, leb→le}
use Rattle.std.specs.Float.{binary32}
use Rattle.std.specs.Float.Ieee.{le, round, fits}
use Rattle.definition.specs.Floats.{ratio}
use Rattle.definition.specs.Refusals.{outside, least_probability, greatest_probability}
use Rattle.definition.specs.Trials.{outside_range}
use Rattle.float_laws.specs.Table.{upto, upto-at}

-- n is not a setting, or the float lies in the range
unfoldable inside : ℕ → Bool
inside n = outside_range n || not (outside least_probability greatest_probability (ratio n 1024))

unfoldable fitting : ℕ → Bool
fitting n = fits binary32 (ratio n 1024)

all_fit : T (upto fitting 1024)
unfolding fitting fits round
all_fit = tt

all-inside : T (upto inside 1024)
unfolding inside outside_range outside le round
all-inside = tt

inner : (a b : Bool) → not (a && b) ≡ false → b ≡ true
inner true true e = refl
inner true false e = absurd (true≢false e)
inner false b e = absurd (true≢false e)

pub below : (n : ℕ) → outside_range n ≡ false → n < 1024
unfolding outside_range
below n h = let l = leb→le n 1023 (subst T (sym (inner (leb 1 n) (leb n 1023) h)) tt) in omega arith

right : (a b : Bool) → a ≡ false → T (a || not b) → b ≡ false
right true b e t = absurd (true≢false e)
right false true e t = absurd t
right false false e t = refl

pub in_range : (n : ℕ) → outside_range n ≡ false → outside least_probability greatest_probability (ratio n 1024) ≡ false
unfolding inside
in_range n h = right (outside_range n) (outside least_probability greatest_probability (ratio n 1024)) h (upto-at inside 1024 all-inside n (below n h))

-- and a binary32 value
pub ratio-fits : (n : ℕ) → outside_range n ≡ false → T (fits binary32 (ratio n 1024))
unfolding fitting
ratio-fits n h = upto-at fitting 1024 all_fit n (below n h)
