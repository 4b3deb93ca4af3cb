-- `messages::residuals::abs` meets its contract.
use mathlib.Core.Path.{sym, subst}
use lib.Dec.{T}
use lib.Ieee.{of_bits, lt, eq}
use Rattle.float_laws.specs.Table.{is_true, is_false}
use Rattle.definition.specs.Floats.{zeroᶠ}
use Rattle.messages.specs.Residual.{abs-zero, abs-below, abs-above}
use Rattle.messages.proofs.residuals.abs.Goals as goal

pub returns-then-x : goal.returns-then-x
unfolding of_bits
returns-then-x c = let x = c.args.x in abs-zero x (subst T (sym c.well_formed.0.1) tt) (is_true (eq x zeroᶠ) c.if-x.true)

pub returns-then-x-2 : goal.returns-then-x-2
unfolding of_bits
returns-then-x-2 c = let x = c.args.x in abs-below x (is_true (lt x zeroᶠ) c.if-x-2.true)

pub returns-else-x-2 : goal.returns-else-x-2
unfolding of_bits
returns-else-x-2 c = let x = c.args.x in abs-above x (is_false (eq x zeroᶠ) c.if-x.false) (is_false (lt x zeroᶠ) c.if-x-2.false)
