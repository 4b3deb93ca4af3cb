-- `checks::check_shared` meets its contract. The loop's invariant: no marker before this one has too many grades.
use Rattle.std.proofs.Common.{map}
use Rattle.definition.specs.Refusals.{bale_of, too_many_grades}
use Rattle.definition.specs.FactorGraph.{marker_numbers}
use Rattle.checks.specs.Searching.{Reached}
use Rattle.checks.proofs.check_shared.Given as goal

abbrev pub invariant-loop-m : goal.invariant-loop-m
invariant-loop-m l = let b = bale_of l.grades l.evidence l.pairs in Reached (map (too_many_grades b) (marker_numbers b)) l.m
