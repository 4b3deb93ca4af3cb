-- `depot::read_shift` meets its contract: what was weighed came by calls of `read`, each because there was more to read and a line waited for it.
use Rattle.std.specs.Prelude.{◌≡◌, length}
use Rattle.depot.specs.Depots.{Going}
use Rattle.depot.specs.Held.{to_read_of}
use Rattle.depot.proofs.read_shift.Given as goal

abbrev pub invariant-loop-buffer : goal.invariant-loop-buffer
invariant-loop-buffer g l =
    Going (g.R.Read.remaining l.initial.from) (g.R.Read.remaining l.from) l.csv l.depot l.markers l.pairs l.sums
    × (length l.work_floats ≡ 16128) × (length l.work_numbers ≡ 16128)

abbrev pub decreases-loop-buffer : goal.decreases-loop-buffer
decreases-loop-buffer g l = to_read_of l.depot
