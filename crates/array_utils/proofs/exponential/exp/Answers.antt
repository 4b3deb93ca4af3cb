-- `array_utils::exponential::exp` meets its contract: for y from -87 to 0 the whole part is at most 126.
use mathlib.Core.Path.{sym, subst}
use Prim.Native.Nat.{ℕ, ◌≤◌}
use native.Mathlib.Omega.{arith}
use lib.Dec.{le→leb}
use lib.Ieee.{neg, of_bits, in_float}
use Rattle.float_laws.specs.Interval.{In}
use Rattle.definition.specs.Floats.{zeroᶠ, minus87}
use Rattle.message_bounds.specs.Exp.{in_range, scaled_in, halvings-le}
use Rattle.array_utils.specs.ExpLaws.{exp-low, exp-joined}
use Rattle.array_utils.proofs.exponential.exp.Goals as goal
use Rattle.array_utils.proofs.exponential.exp.Goals.{After-whole_part-n, Else-y}

pub returns-then-y : goal.returns-then-y
unfolding of_bits neg
returns-then-y c = exp-low c.args.y c.if-y.true

-- from -87 on
ranged : (c : Else-y) → In minus87 zeroᶠ c.args.y
unfolding of_bits neg
ranged c = in_range c.args.y c.requires c.if-y.false

pub whole_part-n-requires : goal.whole_part-n-requires
unfolding of_bits
whole_part-n-requires c = scaled_in c.args.y (ranged c)

small : (c : After-whole_part-n) → c.whole_part-n.result ≤ 126
unfolding of_bits
small c = subst (λ (n : ℕ). n ≤ 126) (sym c.whole_part-n.ensures) (halvings-le c.args.y (ranged c.before))

pub int_to_float-r : goal.int_to_float-r
unfolding in_float
int_to_float-r c = le→leb c.whole_part-n.result 16777216 (omega (arith, small c.before.before))

pub power_of_half-requires : goal.power_of_half-requires
power_of_half-requires c = small c.before.before.before

pub returns : goal.returns
unfolding of_bits neg
returns c =
    exp-joined c.args.y c.exp_series.result c.power_of_half.result c.whole_part-n.result c.if-y.false c.whole_part-n.ensures c.exp_series.ensures c.power_of_half.ensures
