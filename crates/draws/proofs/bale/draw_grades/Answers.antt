-- `bale::draw_grades` meets its contract. The loop's invariant: the grades before g have drawn.
use Rattle.std.proofs.Common.{arith}
use Rattle.definition.specs.Trials.{draw_each}
use Rattle.draws.specs.Model.{drawn_of}
use Rattle.draws.specs.Turns.{none_written, grades-turn}
use Rattle.draws.proofs.bale.draw_grades.Goals as goal

pub loop-g-init : goal.loop-g-init
unfolding draw_each
loop-g-init c = none_written _ _

pub loop-g-preserved : goal.loop-g-preserved
loop-g-preserved c =
    let s = c.loop-g in
    let a = c.args in
    grades-turn a.prior a.state a.present.now s.present s.at s.g (drawn_of c.draw-d.result) c.draw-d.ensures (omega arith) s.invariant
