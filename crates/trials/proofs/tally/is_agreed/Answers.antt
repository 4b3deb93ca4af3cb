-- `tally::is_agreed` meets its contract.
use mathlib.Core.Path.{sym, ap, ◌∙◌}
use mathlib.Core.Bool.{Bool, not}
use mathlib.Core.Option.{some}
use Rattle.definition.specs.Trials.{agrees_with}
use Rattle.trials.proofs.tally.is_agreed.Goals as goal

pub returns-then-drawn : goal.returns-then-drawn
returns-then-drawn c = c.is_above_half-above.ensures ∙ sym (ap (λ (d : Bool). agrees_with d (some c.args.present)) c.if-drawn.true)

pub returns : goal.returns
returns c = ap not c.is_above_half-above.ensures ∙ sym (ap (λ (d : Bool). agrees_with d (some c.args.present)) c.if-drawn.false)
