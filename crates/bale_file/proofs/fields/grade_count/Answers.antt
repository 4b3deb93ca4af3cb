-- `bale_file::fields::grade_count` meets its contract.
use borrow.Author.Rules.{rules}
use Rattle.definition.specs.BaleFile.{bits}
use Rattle.bale_file.proofs.fields.grade_count.Goals as goal

pub returns : goal.returns
unfolding bits
returns c = search rules
