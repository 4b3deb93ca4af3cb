-- `bench::log_normalize_leaf` meets its contract: between the least and the largest finite float all are finite.
use mathlib.Core.Path.{◌≡◌, ap, ◌∙◌}
use mathlib.Core.Bool.{cond}
use lib.Ieee.{Float, of_bits, neg, le}
use Rattle.float_laws.specs.Table.{chose, left, is_true}
use Rattle.float_laws.specs.Interval.{In, in_finite}
use Rattle.definition.specs.Floats.{◌⊖◌, zeroᶠ, largest_finite}
use Rattle.definition.specs.Vectors.{Message, entry, binary, log_normalize}
use Rattle.bench.specs.Leaves.{lowest, shares_apart, log_normalize_leaf}
use Rattle.bench.proofs.log_normalize_leaf.Goals as goal

pub log_normalize-r-requires : goal.log_normalize-r-requires
unfolding of_bits neg
log_normalize-r-requires c =
    let x = c.args.x in
    let i : In lowest largest_finite x = record { low = is_true (le lowest x) c.if-x-2.true; high = is_true (le x largest_finite) c.if-x.true } in
    record { t = (in_finite i tt, tt) }

-- the difference of the two shares
apart : (x a b : Float) → binary a b ≡ log_normalize x zeroᶠ → a ⊖ b ≡ shares_apart x
apart x a b e = ap (λ (m : Message). entry 0 m ⊖ entry 1 m) e

pub returns-then-x-2 : goal.returns-then-x-2
unfolding of_bits neg log_normalize_leaf
returns-then-x-2 c =
    let x = c.args.x in
    let r = c.log_normalize-r in
    apart x r.result.absent r.result.present r.ensures
    ∙ chose (le lowest x) (shares_apart x) x c.if-x-2.true
    ∙ chose (le x largest_finite) (cond (le lowest x) (shares_apart x) x) x c.if-x.true

pub returns-else-x-2 : goal.returns-else-x-2
unfolding of_bits neg log_normalize_leaf
returns-else-x-2 c =
    let x = c.args.x in
    left (le lowest x) (shares_apart x) x c.if-x-2.false ∙ chose (le x largest_finite) (cond (le lowest x) (shares_apart x) x) x c.if-x.true

pub returns-else-x : goal.returns-else-x
unfolding of_bits log_normalize_leaf
returns-else-x c = let x = c.args.x in left (le x largest_finite) (cond (le lowest x) (shares_apart x) x) x c.if-x.false
