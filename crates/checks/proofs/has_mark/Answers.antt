-- `checks::has_mark` meets its contract. A digit is read by a shift.
use Prim.Native.Nat.{ℕ}
use mathlib.Core.Path.{ap}
use lib.Dec.{eqb}
use Rattle.checks.specs.Marks.{digit_shift}
use Rattle.checks.proofs.has_mark.Goals as goal

pub returns : goal.returns
returns c = ap (λ (n : ℕ). eqb n 1) (digit_shift c.args.word c.args.bit)
