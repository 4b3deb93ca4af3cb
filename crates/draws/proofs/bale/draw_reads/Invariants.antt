-- `bale::draw_reads` meets its contract. The loop's invariant: the markers before m have drawn.
use Rattle.std.proofs.Common.{map}
use Rattle.definition.specs.Lists.{range}
use Rattle.definition.specs.Trials.{draw_reads}
use Rattle.draws.specs.Model.{setting_in}
use Rattle.draws.specs.Present.{limits_at}
use Rattle.draws.specs.Turns.{Written}
use Rattle.draws.proofs.bale.draw_reads.Given as goal

abbrev pub invariant-loop-m : goal.invariant-loop-m
invariant-loop-m l = Written l.initial.reads l.m (draw_reads (map (limits_at (setting_in l.setting) l.counts) (range 0 l.m)) l.state) l.reads l.at
