-- `listing::fields::decimal_len` meets its contract: the digits counted and those of what is left are one more than those of n.
use mathlib.Core.Path.{ap}
use native.Mathlib.Omega.{arith}
use lib.ListN.{length}
use Rattle.text_laws.specs.Decimal.{decimal_digit, decimal_longer}
use Rattle.listing.proofs.fields.decimal_len.Goals as goal

pub loop-rest-init : goal.loop-rest-init
loop-rest-init c = (omega arith, omega arith)

pub loop-rest-preserved : goal.loop-rest-preserved
loop-rest-preserved c = (omega arith, omega (arith, decimal_longer c.loop-rest.rest (omega arith)))

pub returns : goal.returns
returns c = omega (arith, ap length (decimal_digit c.loop-rest.rest (omega arith)))
