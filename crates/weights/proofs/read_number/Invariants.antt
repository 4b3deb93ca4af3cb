-- `weights::read_number` meets its contract. The loop's invariant: what is read so far, and the bytes from place i on, give the whole number.
use Rattle.weights.specs.Reading.{Reading}
use Rattle.weights.proofs.read_number.Given as goal

abbrev pub invariant-loop-i : goal.invariant-loop-i
invariant-loop-i l = Reading l.most l.end l.csv l.at l.read l.i
