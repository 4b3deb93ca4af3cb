-- `bale_file::fields::is_regularised` meets its contract.
use borrow.Author.Rules.{rules}
use Rattle.definition.specs.BaleFile.{bits}
use Rattle.bale_file.proofs.fields.is_regularised.Goals as goal

pub returns : goal.returns
unfolding bits
returns c = search rules
