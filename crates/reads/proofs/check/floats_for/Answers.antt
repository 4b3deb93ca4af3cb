-- `check::floats_for` meets its contract.
use borrow.Author.Tests.{lt-ltb, le-ltb}
use Rattle.reads.proofs.check.floats_for.Goals as goal

pub returns-then-lent-needed : goal.returns-then-lent-needed
returns-then-lent-needed c = simp (lt-ltb _ _ c.if-lent-needed.true)

pub returns : goal.returns
returns c = simp (le-ltb _ _ c.if-lent-needed.false)
