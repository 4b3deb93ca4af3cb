-- `array_utils::message::VariableMessage::avoid_underflow` meets its contract.
use Rattle.definition.specs.Vectors.{avoid_underflow_all}
use Rattle.array_utils.proofs.message.VariableMessage.avoid_underflow.Goals as goal

pub returns : goal.returns
unfolding avoid_underflow_all
returns c = rw (c.avoid_underflow_entry.ensures, c.avoid_underflow_entry-2.ensures)
