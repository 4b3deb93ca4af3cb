-- `messages::residuals::residual_vector` meets its contract: what is left, from the largest so far, makes the whole.
use Rattle.std.proofs.Common.{◌≡◌, true, drop}
use Rattle.std.specs.Float.{inf}
use Rattle.definition.specs.Messages.{vector_residual}
use Rattle.messages.proofs.residuals.residual_vector.Given as goal

abbrev pub invariant-loop-i : goal.invariant-loop-i
invariant-loop-i l = vector_residual l.largest (drop l.i l.m) (drop l.i l.o) ≡ vector_residual (inf true) l.m l.o
