-- `listing::parts::put_beliefs` meets its contract.
use Rattle.std.specs.Prelude.{List, length, ◌*◌, ◌≤◌}
use Rattle.definition.specs.Answer.{Belief}
use Rattle.definition.specs.Listing.{belief_lines}
use Rattle.listing.specs.Beliefs.{BeliefsFit, BeliefsLeft}
use Rattle.listing.proofs.parts.put_beliefs.Given as goal

abbrev pub invariant-loop-i : goal.invariant-loop-i
invariant-loop-i l =
    (2 * length l.numbers ≤ length l.floats)
    × ((bs : List Belief) → BeliefsFit bs l.numbers l.floats l.at (length l.initial.out)
    → BeliefsLeft l.initial.out l.at (belief_lines bs) l.numbers l.floats l.out l.k l.i)
