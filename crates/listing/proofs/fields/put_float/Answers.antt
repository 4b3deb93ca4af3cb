-- `listing::fields::put_float` meets its contract.
use native.Mathlib.Omega.{arith}
use Rattle.definition.specs.Listing.{hex}
use Rattle.listing.specs.Digits.{hex-length}
use Rattle.listing.specs.Writing.{field-length, written_next}
use Rattle.listing.proofs.fields.put_float.Goals as goal

pub put_byte-requires : goal.put_byte-requires
put_byte-requires c = omega (arith, c.put_hex-end.ensures.place, hex-length c.args.x)

pub returns : goal.returns
returns c =
    written_next c.put_hex-end.ensures c.put_byte.ensures (omega (arith, field-length (hex c.args.x) c.args.after, hex-length c.args.x))
