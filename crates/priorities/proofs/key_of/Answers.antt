-- `priorities::key_of` meets its contract.
use mathlib.Core.Path.{sym, subst}
use native.Mathlib.Omega.{arith}
use lib.Dec.{T}
use lib.Ieee.{binary32, fits}
use Rattle.float_laws.specs.BitsLess.{clear-number, clear-at-most}
use Rattle.priorities.specs.Keys.{key_is}
use Rattle.priorities.proofs.key_of.Goals as goal
use Rattle.priorities.proofs.key_of.Goals.{Start}

-- what owning an `f32` tells: the format holds it
held : (c : Start) → T (fits binary32 c.args.amount)
held c = subst T (sym c.well_formed.0.1) tt

pub float_to_bits-result : goal.float_to_bits-result
float_to_bits-result c = clear-number c.args.amount c.requires

pub overflow_add-result : goal.overflow_add-result
overflow_add-result c = omega (arith, clear-at-most c.args.amount (held c) c.requires)

pub returns : goal.returns
returns c = key_is c.args.amount (held c) c.requires
