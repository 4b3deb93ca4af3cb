-- `bale_file::fields::beta` meets its contract.
use Prim.Native.Nat.{ℕ}
use mathlib.Core.Path.{ap, ◌∙◌}
use Rattle.definition.specs.Floats.{ratio}
use Rattle.bale_file.proofs.fields.beta.Goals as goal

pub returns : goal.returns
returns c = c.over_1024.ensures ∙ ap (λ (n : ℕ). ratio n 1024) c.lower_ten.ensures.0
