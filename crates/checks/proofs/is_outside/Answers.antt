-- `checks::is_outside` meets its contract. The two tests decide `outside`.
use Rattle.definition.specs.Refusals.{outside}
use Rattle.checks.proofs.is_outside.Goals as goal
use Rattle.checks.proofs.is_outside.Goals.{then-least-x, else-least-x}

pub returns : goal.returns
unfolding outside
returns c =
    elim c.if-least-x.branch [
      | then-least-x w ↦ simp (w.result-is, w.if-least-x.true)
      | else-least-x w ↦ simp (w.result-is, w.if-least-x.false)
    ]
