-- `messages::residuals::residual_binary` meets its contract.
use mathlib.Core.Path.{ap, ◌∙◌}
use lib.Ieee.{Float}
use Rattle.definition.specs.Floats.{abs, ln}
use Rattle.definition.specs.Messages.{pair_residual}
use Rattle.messages.proofs.residuals.residual_binary.Goals as goal

pub max-ratio-requires : goal.max-ratio-requires
max-ratio-requires c = tt

pub abs-requires : goal.abs-requires
abs-requires c = tt

pub returns : goal.returns
unfolding pair_residual
returns c =
    c.abs.ensures ∙ ap abs (c.ln.ensures ∙ ap (λ (x : Float). ln x) c.max-ratio.ensures)
