-- `tally::start_report` meets its contract.
use Rattle.std.proofs.Common.{◌≡◌}
use Rattle.definition.specs.Call.{overwrite}
use Rattle.patterns.specs.Tally.{started}
use Rattle.patterns.proofs.tally.start_report.Given as goal

abbrev pub invariant-loop-g : goal.invariant-loop-g
invariant-loop-g l = l.report ≡ overwrite (started l.g l.patterns) l.initial.report
