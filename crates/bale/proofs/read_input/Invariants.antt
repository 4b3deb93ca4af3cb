-- `bale::read_input` meets its contract: what was taken in came by calls of `read`, each because there was more to read.
use Rattle.bale.specs.Taking.{Going, to_read_of}
use Rattle.bale.proofs.read_input.Given as goal

abbrev pub invariant-loop-buffer : goal.invariant-loop-buffer
invariant-loop-buffer g l = Going (g.R.Read.remaining l.initial.from) (g.R.Read.remaining l.from) l.taking l.markers l.pairs

abbrev pub decreases-loop-buffer : goal.decreases-loop-buffer
decreases-loop-buffer g l = to_read_of l.taking
