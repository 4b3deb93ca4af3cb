-- `steps::log::copy_range` meets its contract: what a turn reads is as it was.
use Rattle.std.proofs.Common.{◌≡◌}
use Rattle.steps.specs.StepFloats.{copying}
use Rattle.steps.proofs.log.copy_range.Given as goal

abbrev pub invariant-loop-i : goal.invariant-loop-i
invariant-loop-i l = l.w ≡ copying l.initial.w l.from l.to l.i
