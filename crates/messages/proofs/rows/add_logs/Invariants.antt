-- `messages::rows::add_logs` meets its contract: what is left to add, from the sums so far, makes the whole.
use Rattle.messages.specs.Logarithms.{Upto}
use Rattle.messages.proofs.rows.add_logs.Given as goal

abbrev pub invariant-loop-i : goal.invariant-loop-i
invariant-loop-i l = Upto 0 l.initial.absent l.rows l.i l.absent × Upto 1 l.initial.present l.rows l.i l.present
