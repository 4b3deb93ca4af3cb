-- `sweeps::send_tree::scatter` meets its contract: after i turns the first i messages are copied.
use Rattle.std.proofs.Common.{◌≡◌}
use Rattle.sweeps.specs.SweepCopies.{scattered}
use Rattle.sweeps.proofs.send_tree.scatter.Given as goal

abbrev pub invariant-loop-i : goal.invariant-loop-i
invariant-loop-i l = l.w ≡ scattered l.outs l.offsets l.l l.first l.base l.initial.w l.i
