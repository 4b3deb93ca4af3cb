-- `bale_file::fields::upper_ten` meets its contract.
use borrow.Author.Rules.{rules}
use Rattle.definition.specs.BaleFile.{bits}
use Rattle.bale_file.proofs.fields.upper_ten.Goals as goal

pub returns : goal.returns
unfolding bits
returns c = search rules
