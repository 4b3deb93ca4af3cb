-- `reads::is_above_half` meets its contract.
use mathlib.Core.Path.{refl}
use lib.Ieee.{of_bits}
use Rattle.definition.specs.Reads.{above_half}
use Rattle.reads.proofs.is_above_half.Goals as goal

pub returns : goal.returns
unfolding above_half of_bits
returns c = refl
