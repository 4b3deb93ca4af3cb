-- `sweeps::send_tree::keep_sent` meets its contract: after i turns the first i messages are copied.
use Rattle.std.proofs.Common.{◌≡◌}
use Rattle.sweeps.specs.SweepCopies.{kept_sent}
use Rattle.sweeps.proofs.send_tree.keep_sent.Given as goal

abbrev pub invariant-loop-i : goal.invariant-loop-i
invariant-loop-i l = l.w ≡ kept_sent l.outs l.offsets l.l l.first l.initial.w l.i
