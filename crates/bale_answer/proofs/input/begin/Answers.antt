-- `input::begin` meets its contract.
use mathlib.Core.Path.{refl}
use Rattle.bale_answer.specs.Taken.{taken_none}
use Rattle.bale_answer.proofs.input.begin.Goals as goal

pub returns : goal.returns
returns c = taken_none _ c.start.ensures refl
