-- `array_utils::VariableMessage::write` meets its contract.
use Rattle.std.specs.Float.{nan}
use Rattle.list_laws.specs.Slices.{set-set-put}
use Rattle.array_utils.proofs.message.VariableMessage.write.Goals as goal

pub returns : goal.returns
returns c = set-set-put nan c.args.row.now c.args.at c.args.self.absent c.args.self.present c.requires
