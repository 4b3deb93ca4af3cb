-- `bale::draw_reads` meets its contract. The loop's invariant: the markers before m have drawn.
use Rattle.std.proofs.Common.{arith}
use Rattle.definition.specs.Trials.{draw_reads}
use Rattle.draws.specs.Model.{drawn_of, setting_in}
use Rattle.draws.specs.Turns.{none_written, reads-turn}
use Rattle.draws.proofs.bale.draw_reads.Goals as goal

pub loop-m-init : goal.loop-m-init
unfolding draw_reads
loop-m-init c = none_written _ _

pub loop-m-preserved : goal.loop-m-preserved
loop-m-preserved c =
    let a = c.args in
    let s = c.loop-m in
    reads-turn (setting_in a.setting) a.state a.counts.now a.reads.now s.reads s.at s.m (drawn_of c.draw_marker-d.result) c.draw_marker-d.ensures (omega arith)
    s.invariant
