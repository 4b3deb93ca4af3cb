-- `readers::first_fall` meets its contract. The loop's invariant: no read before this one falls.
use Rattle.definition.specs.Readers.{reads_of, falls}
use Rattle.checks.specs.Searching.{Reached}
use Rattle.readers.proofs.first_fall.Given as goal

abbrev pub invariant-loop-i : goal.invariant-loop-i
invariant-loop-i l = Reached (falls (reads_of l.reads)) l.i
