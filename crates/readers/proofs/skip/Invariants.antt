-- `readers::skip` meets its contract. The loop's invariant: all lower reads before this one are passed.
use Rattle.definition.specs.Readers.{reads_of}
use Rattle.readers.specs.Scan.{Passed}
use Rattle.readers.proofs.skip.Given as goal

abbrev pub invariant-loop-j : goal.invariant-loop-j
invariant-loop-j l = Passed l.window (reads_of l.lower) l.marks l.tick l.j
