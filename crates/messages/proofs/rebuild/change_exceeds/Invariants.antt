-- `messages::rebuild::change_exceeds` meets its contract: what is left of both, from the sum so far, decides.
use Rattle.std.proofs.Common.{◌≡◌, drop}
use Rattle.definition.specs.Floats.{zeroᶠ}
use Rattle.definition.specs.Messages.{change_exceeds}
use Rattle.messages.specs.Pairs.{pairs}
use Rattle.messages.proofs.rebuild.change_exceeds.Given as goal

abbrev pub invariant-loop-i : goal.invariant-loop-i
invariant-loop-i l =
    change_exceeds l.tolerance l.change (drop l.i (pairs l.rows)) (drop l.i (pairs l.old)) ≡ change_exceeds l.tolerance zeroᶠ (pairs l.rows) (pairs l.old)
