-- `bale_file::fields::bare_present` meets its contract.
use Prim.Native.Nat.{ℕ}
use native.Mathlib.Omega.{arith}
use mathlib.Core.Path.{ap, ◌∙◌}
use Rattle.definition.specs.BaleFile.{bits, evidence_of}
use Rattle.definition.specs.Floats.{ratio}
use Rattle.bale_file.proofs.fields.bare_present.Goals as goal

pub returns : goal.returns
unfolding bits evidence_of
returns c = c.over_16384.ensures ∙ ap (λ (n : ℕ). ratio n 16384) (omega arith)
