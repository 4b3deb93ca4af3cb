-- `listing::fields::put_decimal` meets its contract.
use mathlib.Core.Path.{sym}
use Rattle.listing.specs.Writing.{written_is}
use Rattle.listing.specs.Digits.{decimal-digits}
use Rattle.listing.proofs.fields.put_decimal.Goals as goal

pub returns : goal.returns
returns c =
    let n = c.args.n in
    written_is (sym (rw (← c.decimal_len-count.ensures) at (decimal-digits n))) c.put_digits.ensures
