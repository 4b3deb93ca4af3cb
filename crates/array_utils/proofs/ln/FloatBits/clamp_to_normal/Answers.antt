-- `array_utils::ln::FloatBits::clamp_to_normal` meets its contract.
use lib.Ieee.{of_bits, le}
use Rattle.float_laws.specs.Table.{chose, left}
use Rattle.definition.specs.Floats.{least_normal}
use Rattle.array_utils.proofs.ln.FloatBits.clamp_to_normal.Goals as goal

pub returns-then-x : goal.returns-then-x
unfolding of_bits
returns-then-x c = chose (le least_normal c.args.x) c.args.x least_normal c.if-x.true

pub returns-else-x : goal.returns-else-x
unfolding of_bits
returns-else-x c = left (le least_normal c.args.x) c.args.x least_normal c.if-x.false
