-- `tally::outcome_of` meets its contract.
use Rattle.tonnage.specs.Tallies.{ends_waiting, ends_decided}
use Rattle.tonnage.specs.Turns.{stands_as}
use Rattle.tonnage.proofs.tally.outcome_of.Goals as goal

pub returns-in-Waiting : goal.returns-in-Waiting
returns-in-Waiting c csv shift sums h = ends_waiting csv shift _ _ _ _ _ sums (stands_as csv _ _ sums h _ c.in-Waiting.is)

pub returns-in-Weighed : goal.returns-in-Weighed
returns-in-Weighed c csv shift sums h = ends_decided csv shift _ (stands_as csv _ _ sums h _ c.in-Weighed.is)

pub returns-in-Refused : goal.returns-in-Refused
returns-in-Refused c csv shift sums h = ends_decided csv shift _ (stands_as csv _ _ sums h _ c.in-Refused.is)
