-- The seven facts about floats that `Keeps` of graph_laws asks for.
use Rattle.definition.specs.Settings.{Settings}
use Rattle.graph_laws.specs.Sending.{Keeps}
use Rattle.message_bounds.specs.Bounded.{BoundedEntries, InRange, ones_bounded, halves_bounded, prior_bounded}
use Rattle.message_bounds.specs.Variable.{variable_bounded, opening_bounded}
use Rattle.message_bounds.specs.Factors.{factors_bounded}
use Rattle.message_bounds.specs.Trees.{trees_bounded}

pub keeps : (s : Settings) → InRange s → Keeps BoundedEntries s
keeps s r =
    record {
      ones = ones_bounded;
      halves = halves_bounded;
      prior = prior_bounded s r;
      variable = λ b ms i h l g w k. variable_bounded b ms i h g k;
      opening = λ b ms h l g w k. opening_bounded b ms h g k;
      factors = factors_bounded s r;
      trees = λ f ms a h e g l w. trees_bounded f ms h e g l w;
    }
