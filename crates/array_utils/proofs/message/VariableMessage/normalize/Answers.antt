-- `array_utils::message::VariableMessage::normalize` meets its contract.
use mathlib.Core.Path.{refl}
use lib.Ieee.{of_bits}
use Rattle.definition.specs.Vectors.{normalize, sum_of}
use Rattle.array_utils.proofs.message.VariableMessage.normalize.Goals as goal

pub returns : goal.returns
unfolding of_bits normalize sum_of
returns c = refl
