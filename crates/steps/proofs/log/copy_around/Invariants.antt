-- `steps::log::copy_around` meets its contract: after i turns what the first i neighbours hold is copied.
use Rattle.std.proofs.Common.{◌≡◌, ◌+◌, ◌-◌, get_or}
use Rattle.list_laws.specs.Part.{region}
use Rattle.list_laws.specs.Put.{put}
use Rattle.messages.specs.Layout.{width}
use Rattle.messages.specs.LayoutCopy.{copied}
use Rattle.steps.specs.StepLog.{Words}
use Rattle.steps.proofs.log.copy_around.Given as goal

abbrev pub invariant-loop-start : goal.invariant-loop-start
invariant-loop-start l =
    (g : Words l.firsts l.starts l.offsets) → l.w ≡ put l.initial.w l.to (copied g.graph (region l.initial.w l.from (width g.graph.directions))
    (region l.starts (get_or l.firsts l.n 0) (get_or l.firsts (l.n + 1) 0 - get_or l.firsts l.n 0)) (region l.initial.w l.to (width g.graph.directions))
    l.start-index)
