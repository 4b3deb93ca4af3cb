-- `bale_file::word::kind_of` meets its contract.
use borrow.Author.Rules.{rules}
use Rattle.definition.specs.BaleFile.{word_kind}
use Rattle.bale_file.proofs.word.kind_of.Goals as goal

pub returns : goal.returns
unfolding word_kind
returns c = search rules
