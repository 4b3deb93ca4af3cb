-- `checks::check_pairs_known` meets its contract. The loop's invariant: no pair before this one fails.
use Rattle.std.proofs.Common.{map}
use Rattle.definition.specs.Refusals.{pairs_of, bale_of, unknown_pair}
use Rattle.checks.specs.Searching.{Reached}
use Rattle.checks.proofs.check_pairs_known.Given as goal

abbrev pub invariant-loop-pair : goal.invariant-loop-pair
invariant-loop-pair l = Reached (map (unknown_pair (bale_of l.grades l.evidence l.pairs)) (pairs_of l.pairs)) l.pair
