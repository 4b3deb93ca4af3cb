-- `bale::count_present` meets its contract. The loop's invariant: the first i pairs are counted.
use Rattle.draws.specs.Present.{PresentTo}
use Rattle.draws.proofs.bale.count_present.Given as goal

abbrev pub invariant-loop-i : goal.invariant-loop-i
invariant-loop-i l = PresentTo l.present l.pairs l.i l.counts
