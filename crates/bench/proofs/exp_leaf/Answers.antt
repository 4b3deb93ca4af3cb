-- `bench::exp_leaf` meets its contract.
use mathlib.Core.Path.{◌∙◌}
use lib.Ieee.{of_bits, le}
use Rattle.float_laws.specs.Table.{chose, left, is_true}
use Rattle.definition.specs.Floats.{zeroᶠ, exp}
use Rattle.bench.specs.Leaves.{exp_leaf}
use Rattle.bench.proofs.exp_leaf.Goals as goal

pub exp-requires : goal.exp-requires
unfolding of_bits
exp-requires c = is_true (le c.args.y zeroᶠ) c.if-y.true

pub returns-then-y : goal.returns-then-y
unfolding of_bits exp_leaf
returns-then-y c = let y = c.args.y in c.exp.ensures ∙ chose (le y zeroᶠ) (exp y) y c.if-y.true

pub returns-else-y : goal.returns-else-y
unfolding of_bits exp_leaf
returns-else-y c = let y = c.args.y in left (le y zeroᶠ) (exp y) y c.if-y.false
