-- `bale_file::fields::is_zero_base` meets its contract.
use mathlib.Core.Path.{sym}
use borrow.Author.Tests.{ne_eqb}
use Rattle.definition.specs.FileAnswer.{zero_base}
use Rattle.bale_file.proofs.fields.is_zero_base.Goals as goal

pub returns-then-kind_of-ne7 : goal.returns-then-kind_of-ne7
unfolding zero_base
returns-then-kind_of-ne7 c = rw (sym c.kind_of.ensures, ne_eqb _ 7 c.if-kind_of-ne7.true)

pub returns : goal.returns
unfolding zero_base
returns c = rw (sym c.kind_of.ensures, c.if-kind_of-ne7.false, c.lower_ten.ensures.0)
