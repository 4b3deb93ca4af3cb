-- `listing::fields::put_number` meets its contract.
use Rattle.definition.specs.Listing.{decimal}
use native.Mathlib.Omega.{arith}
use Rattle.listing.specs.Writing.{field-length, written_next}
use Rattle.listing.proofs.fields.put_number.Goals as goal

pub returns : goal.returns
returns c =
    written_next c.put_decimal-end.ensures c.put_byte.ensures (omega (arith, field-length (decimal c.args.n) c.args.after))
