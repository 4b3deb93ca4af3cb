-- `array_utils::message::sum_logs_batched` meets its contract: what is left of the blocks, from the sums so far, is the whole.
use Rattle.array_utils.specs.Columns as columns
use Rattle.array_utils.specs.SumLaws.{Upto}
use Rattle.array_utils.proofs.message.sum_logs_batched.Given as goal

abbrev pub invariant-loop-i : goal.invariant-loop-i
invariant-loop-i l = Upto columns.absent l.rows l.absent l.i × Upto columns.present l.rows l.present l.i
