-- `opening::initialize::initial_entry` meets its contract.
use Prim.Native.Nat.{◌≤◌}
use native.Mathlib.Omega.{arith}
use lib.Ieee.{of_bits}
use Rattle.opening.specs.OpenSends.{entry-long, entry-two}
use Rattle.opening.proofs.initialize.initial_entry.Goals as goal

pub returns-then-len-gt2 : goal.returns-then-len-gt2
unfolding of_bits
returns-then-len-gt2 c = entry-long _ c.if-len-gt2.true

pub returns-else-len-gt2 : goal.returns-else-len-gt2
unfolding of_bits
returns-else-len-gt2 c = let h : c.args.len ≤ 2 = omega (arith, c.if-len-gt2.false) in entry-two c.args.len h
