-- `array_utils::vectors::normalize` meets its contract.
use mathlib.Core.Path.{ap, ◌∙◌}
use mathlib.Core.List.{map}
use lib.Ieee.{Float}
use Rattle.definition.specs.Floats.{◌⊘◌}
use Rattle.definition.specs.Vectors.{normalize}
use Rattle.array_utils.proofs.vectors.normalize.Goals as goal

pub returns : goal.returns
unfolding normalize
returns c =
    let a = c.args.a.now in
    c.divide.ensures ∙ ap (λ (s : Float). map (λ (x : Float). x ⊘ s) a) c.sum-by.ensures
