-- `check::has_many` meets its contract.
use Rattle.std.proofs.Common.{lt-ltb, le-ltb}
use Rattle.trials.specs.Each.{length-settings}
use Rattle.trials.proofs.check.has_many.Goals as goal

pub returns-then-settings-gt64 : goal.returns-then-settings-gt64
returns-then-settings-gt64 c = simp (length-settings, lt-ltb _ _ c.if-settings-gt64.true)

pub returns-else-settings-gt64 : goal.returns-else-settings-gt64
returns-else-settings-gt64 c = simp (length-settings, le-ltb _ _ c.if-settings-gt64.false)
