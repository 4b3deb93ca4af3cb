-- `tally::add` meets its contract.
use native.Mathlib.Omega.{arith}
use mathlib.Core.Path.{ap}
use mathlib.Core.Bool.{Bool, not}
use Rattle.report_laws.specs.Counts.{one_if}
use Rattle.trials.proofs.tally.add.Goals as goal

pub returns-then-agreed : goal.returns-then-agreed
returns-then-agreed c = let e = c.if-agreed.true in (omega (arith, ap one_if e), omega (arith, ap (λ (b : Bool). one_if (not b)) e))

pub returns : goal.returns
returns c = let e = c.if-agreed.false in (omega (arith, ap one_if e), omega (arith, ap (λ (b : Bool). one_if (not b)) e))
