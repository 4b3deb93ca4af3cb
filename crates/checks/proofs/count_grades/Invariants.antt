-- `checks::count_grades` meets its contract. The loop's invariant: what is counted and what is left make up each marker's grades.
use Rattle.std.proofs.Common.{◌≡◌, length}
use Rattle.definition.specs.Refusals.{pairs_of}
use Rattle.checks.specs.Counts.{Counted}
use Rattle.checks.proofs.count_grades.Given as goal

abbrev pub invariant-loop-i : goal.invariant-loop-i
invariant-loop-i l = (length l.counts ≡ 1024) × Counted (pairs_of l.pairs) l.i l.counts
