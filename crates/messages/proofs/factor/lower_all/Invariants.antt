-- `messages::factor::lower_all` meets its contract: after i turns the first i entries are lowered.
use Rattle.std.proofs.Common.{◌≡◌}
use Rattle.list_laws.specs.InPlace.{mapped}
use Rattle.messages.specs.Factor.{lowered}
use Rattle.messages.proofs.factor.lower_all.Given as goal

abbrev pub invariant-loop-x : goal.invariant-loop-x
invariant-loop-x l = l.out ≡ mapped lowered l.x-index l.initial.out
