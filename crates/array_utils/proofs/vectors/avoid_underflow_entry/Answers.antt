-- `array_utils::vectors::avoid_underflow_entry` meets its contract.
use lib.Ieee.{of_bits, lt}
use Rattle.float_laws.specs.Table.{chose, left}
use Rattle.definition.specs.Floats.{avoid_underflow}
use Rattle.definition.specs.Floats as floats
use Rattle.array_utils.proofs.vectors.avoid_underflow_entry.Goals as goal

pub returns-then-x : goal.returns-then-x
unfolding of_bits avoid_underflow
returns-then-x c = chose (lt c.args.x floats.c) floats.c c.args.x c.if-x.true

pub returns-else-x : goal.returns-else-x
unfolding of_bits avoid_underflow
returns-else-x c = left (lt c.args.x floats.c) floats.c c.args.x c.if-x.false
