-- `bale::draw_grades` meets its contract. The loop's invariant: the grades before g have drawn.
use Rattle.std.proofs.Common.{replicate}
use Rattle.definition.specs.Trials.{draw_each}
use Rattle.draws.specs.Turns.{Written}
use Rattle.draws.proofs.bale.draw_grades.Given as goal

abbrev pub invariant-loop-g : goal.invariant-loop-g
invariant-loop-g l = Written l.initial.present l.g (draw_each (replicate l.g l.prior) l.state) l.present l.at
