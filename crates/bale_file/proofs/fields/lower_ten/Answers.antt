-- `bale_file::fields::lower_ten` meets its contract.
use borrow.Author.Rules.{rules}
use Rattle.definition.specs.BaleFile.{bits}
use Rattle.bale_file.proofs.fields.lower_ten.Goals as goal

pub returns : goal.returns
unfolding bits
returns c = search rules
