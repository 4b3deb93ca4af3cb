-- `sweeps::send::send_each` meets its contract: after i turns the first i messages are sent.
use Rattle.std.proofs.Common.{◌≡◌}
use Rattle.definition.specs.Vectors.{binary}
use Rattle.sweeps.specs.Sweep.{each_sent}
use Rattle.sweeps.proofs.send.send_each.Given as goal

abbrev pub invariant-loop-i : goal.invariant-loop-i
invariant-loop-i l =
    l.w ≡ each_sent (binary l.sum.absent l.sum.present) (binary l.prior.absent l.prior.present) l.outs l.offsets l.l l.from l.first l.k l.initial.w l.i
