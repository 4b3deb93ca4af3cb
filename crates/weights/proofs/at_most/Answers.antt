-- `weights::at_most` meets its contract.
use borrow.Author.Tests.{le-leb, lt-leb}
use Rattle.definition.specs.Tonnage.{at_most}
use Rattle.weights.proofs.at_most.Goals as goal

pub returns-then-value-most : goal.returns-then-value-most
unfolding at_most
returns-then-value-most c = simp (le-leb _ _ c.if-value-most.true)

pub returns-else-value-most : goal.returns-else-value-most
unfolding at_most
returns-else-value-most c = simp (lt-leb _ _ c.if-value-most.false)
