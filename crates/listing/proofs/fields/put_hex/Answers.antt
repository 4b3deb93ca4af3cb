-- `listing::fields::put_hex` meets its contract.
use mathlib.Core.Path.{sym, subst}
use native.Mathlib.Omega.{arith}
use lib.Dec.{T}
use lib.Ieee.{binary32, fits}
use lib.Ieee.Bits.{to_bits-lt}
use Rattle.listing.specs.Writing.{written_is}
use Rattle.listing.specs.Digits.{hex-digits}
use Rattle.listing.proofs.fields.put_hex.Goals as goal
use Rattle.listing.proofs.fields.put_hex.Goals.{Start}

-- what owning an `f32` tells: the format holds it
held : (c : Start) → T (fits binary32 c.args.x)
held c = subst T (sym c.well_formed.1.1.0.1) tt

pub overflow_cast-x : goal.overflow_cast-x
overflow_cast-x c = omega (arith, to_bits-lt binary32 c.args.x (held c.before.before))

pub returns : goal.returns
returns c = written_is (sym (hex-digits c.args.x)) c.put_digits.ensures
