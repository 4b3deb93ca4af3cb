-- `priorities::amount_of` meets its contract.
use mathlib.Core.Path.{sym, subst}
use mathlib.Core.Bool.{Bool, not}
use Prim.Native.Nat.{◌-◌}
use native.Mathlib.Omega.{arith}
use lib.Dec.{T}
use Rattle.float_laws.specs.BitsLess.{no_nan-bits}
use Rattle.priorities.proofs.amount_of.Goals as goal

pub float_from_bits-result : goal.float_from_bits-result
float_from_bits-result c = subst (λ (b : Bool). T (not b)) (sym (no_nan-bits (c.args.key - 1) (omega arith))) tt
