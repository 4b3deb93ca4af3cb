-- `reads::put_read` meets its contract.
use lib.Ieee.{of_bits}
use Rattle.reads.proofs.put_read.Goals as goal

pub returns-then-strong : goal.returns-then-strong
unfolding of_bits
returns-then-strong c = simp c.if-strong.true

pub returns-else-strong : goal.returns-else-strong
unfolding of_bits
returns-else-strong c = simp c.if-strong.false
