-- `checks::is_bad_tolerance` meets its contract. The two tests decide `bad_tolerance`; the bits are infinity's.
use lib.Ieee.{of_bits, nan_bits}
use Rattle.checks.specs.Settings.{tolerance_negative, tolerance_good, tolerance_large}
use Rattle.checks.proofs.is_bad_tolerance.Goals as goal

pub returns-then-tolerance : goal.returns-then-tolerance
unfolding of_bits
returns-then-tolerance c = tolerance_negative c.args.tolerance c.if-tolerance.true

pub float_from_bits-t-3 : goal.float_from_bits-t-3
unfolding nan_bits
float_from_bits-t-3 c = tt

pub returns-then-tolerance-2 : goal.returns-then-tolerance-2
unfolding of_bits
returns-then-tolerance-2 c = tolerance_good _ c.if-tolerance.false c.if-tolerance-2.true

pub returns : goal.returns
unfolding of_bits
returns c = tolerance_large _ c.if-tolerance-2.false
