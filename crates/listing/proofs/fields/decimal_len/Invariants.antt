-- `listing::fields::decimal_len` meets its contract: the digits counted and those of what is left are one more than those of n.
use mathlib.Core.Path.{◌≡◌}
use Prim.Native.Nat.{◌+◌, ◌≤◌}
use lib.ListN.{length}
use Rattle.definition.specs.Listing.{decimal}
use Rattle.listing.proofs.fields.decimal_len.Given as goal

-- the first half keeps the count from wrapping
abbrev pub invariant-loop-rest : goal.invariant-loop-rest
invariant-loop-rest l = (l.count + l.rest ≤ l.n + 1) × (l.count + length (decimal l.rest) ≡ length (decimal l.n) + 1)

abbrev pub decreases-loop-rest : goal.decreases-loop-rest
decreases-loop-rest l = l.rest
