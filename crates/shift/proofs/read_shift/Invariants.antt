-- `shift::read_shift` meets its contract: what was taken in came by calls of `read`, each because there was more to read and all had gone.
use Rattle.std.specs.Prelude.{◌≡◌, length}
use Rattle.shift.specs.Shifts.{Going}
use Rattle.shift.specs.Held.{to_read_of}
use Rattle.shift.proofs.read_shift.Given as goal

abbrev pub invariant-loop-buffer : goal.invariant-loop-buffer
invariant-loop-buffer g l =
    Going (g.R.Read.remaining l.initial.from) (g.R.Read.remaining l.from) (g.W.Write.contents l.initial.to) (g.W.Write.contents l.to) l.shift l.markers l.pairs
    × (length l.work_floats ≡ 16128) × (length l.work_numbers ≡ 16128)

abbrev pub decreases-loop-buffer : goal.decreases-loop-buffer
decreases-loop-buffer g l = to_read_of l.shift
