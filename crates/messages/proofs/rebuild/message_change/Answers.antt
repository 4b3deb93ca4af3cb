-- `messages::rebuild::message_change` meets its contract.
use mathlib.Core.Path.{◌≡◌, ap, ◌∙◌}
use lib.Ieee.{Float}
use Rattle.definition.specs.Floats.{maxᶠ}
use Rattle.definition.specs.Messages.{message_change}
use Rattle.messages.proofs.rebuild.message_change.Goals as goal

pub abs_log_ratio-absent-requires : goal.abs_log_ratio-absent-requires
abs_log_ratio-absent-requires c = c.requires

pub abs_log_ratio-present-requires : goal.abs_log_ratio-present-requires
abs_log_ratio-present-requires c = c.requires

pub max-requires : goal.max-requires
max-requires c = tt

larger : (a b r x y : Float) → r ≡ maxᶠ a b → a ≡ x → b ≡ y → r ≡ maxᶠ x y
larger a b r x y e f g = e ∙ ap (λ (z : Float). maxᶠ z b) f ∙ ap (maxᶠ x) g

pub returns : goal.returns
unfolding message_change
returns c =
    larger _ _ _ _ _ c.max.ensures c.abs_log_ratio-absent.ensures c.abs_log_ratio-present.ensures
