-- `checks::check_repeated` meets its contract. The loop's invariant: the marks are those of the pairs passed, none of which was given before.
use Rattle.std.proofs.Common.{[], ◌≡◌, length}
use Rattle.definition.specs.Refusals.{pairs_of, repeated_pairs}
use Rattle.checks.specs.Marks.{Marked, passed}
use Rattle.checks.specs.Searching.{Reached}
use Rattle.checks.proofs.check_repeated.Given as goal

abbrev pub invariant-loop-i : goal.invariant-loop-i
invariant-loop-i l =
    record {
      words : length l.marks ≡ 32768;
      marked : Marked l.marks (passed l.pairs l.i);
      reached : Reached (repeated_pairs [] (pairs_of l.pairs)) l.i;
    }
