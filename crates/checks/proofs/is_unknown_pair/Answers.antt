-- `checks::is_unknown_pair` meets its contract. The two tests decide `unknown_pair` of one pair.
use borrow.Author.Tests.{le-leb, lt-leb}
use Rattle.checks.specs.Tests.{known-test}
use Rattle.checks.proofs.is_unknown_pair.Goals as goal

pub returns-then-grades-pairs : goal.returns-then-grades-pairs
returns-then-grades-pairs c = rw (known-test _ _ _ _ c.requires, le-leb _ _ c.if-grades-pairs.true)

pub returns-else-grades-pairs : goal.returns-else-grades-pairs
returns-else-grades-pairs c = rw (known-test _ _ _ _ c.requires, lt-leb _ _ c.if-grades-pairs.false)
