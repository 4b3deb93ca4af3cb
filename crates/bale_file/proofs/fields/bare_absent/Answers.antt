-- `bale_file::fields::bare_absent` meets its contract.
use Prim.Native.Nat.{ℕ}
use native.Mathlib.Omega.{arith}
use mathlib.Core.Path.{ap, ◌∙◌}
use Rattle.definition.specs.BaleFile.{bits, evidence_of}
use Rattle.definition.specs.Floats.{ratio}
use Rattle.bale_file.proofs.fields.bare_absent.Goals as goal

pub returns-then-e-gt16384 : goal.returns-then-e-gt16384
unfolding bits evidence_of
returns-then-e-gt16384 c = c.over_16384.ensures ∙ ap (λ (n : ℕ). ratio n 16384) (omega arith)

pub returns : goal.returns
unfolding bits evidence_of
returns c = c.over_16384-2.ensures ∙ ap (λ (n : ℕ). ratio n 16384) (omega arith)
