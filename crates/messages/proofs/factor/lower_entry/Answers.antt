-- `messages::factor::lower_entry` meets its contract.
use lib.Ieee.{of_bits, lt}
use Rattle.float_laws.specs.Table.{chose, left}
use Rattle.definition.specs.Floats.{oneᶠ}
use Rattle.messages.specs.Factor.{lowered}
use Rattle.messages.proofs.factor.lower_entry.Goals as goal

pub returns-then-x : goal.returns-then-x
unfolding of_bits lowered
returns-then-x c = let x = c.args.x in chose (lt oneᶠ x) oneᶠ x c.if-x.true

pub returns-else-x : goal.returns-else-x
unfolding of_bits lowered
returns-else-x c = let x = c.args.x in left (lt oneᶠ x) oneᶠ x c.if-x.false
