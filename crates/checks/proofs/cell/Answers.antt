-- `checks::cell` meets its contract. The pair lies in the grid.
use native.Mathlib.Omega.{arith}
use mathlib.Core.Path.{refl}
use Rattle.checks.specs.Marks.{in_grid}
use Rattle.checks.proofs.cell.Goals as goal

pub returns : goal.returns
returns c = (refl, omega (arith, in_grid _ _ c.requires.pair_in_bounds c.requires.in_grid))
