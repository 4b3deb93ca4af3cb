-- `checks::is_bad_evidence` meets its contract. The two tests decide `bad_evidence` of one marker.
use Rattle.std.specs.Float.Ieee.{of_bits}
use Rattle.checks.specs.Tests.{evidence-test}
use Rattle.checks.proofs.is_bad_evidence.Goals as goal

pub returns-then-is_outside : goal.returns-then-is_outside
unfolding of_bits
returns-then-is_outside c = rw (evidence-test _ _ c.requires, ← c.is_outside.ensures, c.if-is_outside.true)

pub returns-else-is_outside : goal.returns-else-is_outside
unfolding of_bits
returns-else-is_outside c = rw (evidence-test _ _ c.requires, ← c.is_outside.ensures, c.if-is_outside.false) c.is_outside-else-is_outside.ensures
