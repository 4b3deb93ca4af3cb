-- `readers::match_all` meets its contract. The loop's invariant: `Running`.
use Rattle.readers.specs.Turns.{Running}
use Rattle.readers.proofs.match_all.Given as goal

abbrev pub invariant-loop-i : goal.invariant-loop-i
invariant-loop-i l = Running l.upper l.lower l.window l.initial.answer l.answer l.marks l.first l.count l.i
