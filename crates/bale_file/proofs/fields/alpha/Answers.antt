-- `bale_file::fields::alpha` meets its contract.
use Prim.Native.Nat.{ℕ}
use mathlib.Core.Path.{ap, ◌∙◌}
use Rattle.definition.specs.Floats.{ratio}
use Rattle.bale_file.proofs.fields.alpha.Goals as goal

pub returns : goal.returns
returns c = c.over_1024.ensures ∙ ap (λ (n : ℕ). ratio n 1024) c.upper_ten.ensures.0
