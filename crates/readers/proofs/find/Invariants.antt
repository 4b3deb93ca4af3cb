-- `readers::find` meets its contract. The loop's invariant: no lower read before this one is open.
use Rattle.definition.specs.Readers.{reads_of}
use Rattle.checks.specs.Searching.{Reached}
use Rattle.readers.specs.Scan.{read_of, open_tests}
use Rattle.readers.proofs.find.Given as goal

abbrev pub invariant-loop-j : goal.invariant-loop-j
invariant-loop-j l = Reached (open_tests l.window (reads_of l.lower) l.marks (read_of l.tick l.marker)) l.j
