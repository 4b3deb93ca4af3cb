-- `checks::check_evidence` meets its contract. The loop's invariant: no marker before this one fails.
use Rattle.std.proofs.Common.{map}
use Rattle.definition.specs.Refusals.{markers_of, bad_evidence}
use Rattle.checks.specs.Searching.{Reached}
use Rattle.checks.proofs.check_evidence.Given as goal

abbrev pub invariant-loop-m : goal.invariant-loop-m
invariant-loop-m l = Reached (map bad_evidence (markers_of l.evidence)) l.m
