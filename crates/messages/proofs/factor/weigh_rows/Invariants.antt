-- `messages::factor::weigh_rows` meets its contract: after i turns the first i entries are written.
use Rattle.std.proofs.Common.{◌≡◌, get_or}
use Rattle.std.specs.Float.{nan}
use Rattle.list_laws.specs.Write.{write}
use Rattle.array_utils.specs.Columns.{column}
use Rattle.messages.specs.Factor.{weighted}
use Rattle.messages.proofs.factor.weigh_rows.Given as goal

abbrev pub invariant-loop-i : goal.invariant-loop-i
invariant-loop-i l = l.out ≡ write l.initial.out 0 l.i (λ k. get_or (column (weighted l.message.absent l.message.present) l.cpd) k nan)
