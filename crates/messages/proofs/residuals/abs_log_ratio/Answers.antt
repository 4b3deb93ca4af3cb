-- `messages::residuals::abs_log_ratio` meets its contract.
use mathlib.Core.Path.{ap, ◌∙◌}
use Rattle.definition.specs.Floats.{abs}
use Rattle.definition.specs.Messages.{abs_log_ratio}
use Rattle.messages.proofs.residuals.abs_log_ratio.Goals as goal

pub abs-requires : goal.abs-requires
abs-requires c = tt

pub returns : goal.returns
unfolding abs_log_ratio
returns c = c.abs.ensures ∙ ap abs c.ln.ensures
