-- `check::check_settings` meets its contract. The loop's invariant: no number before i is outside.
use Rattle.checks.specs.Searching.{Reached}
use Rattle.trials.specs.Checked.{tests}
use Rattle.trials.proofs.check.check_settings.Given as goal

abbrev pub invariant-loop-i : goal.invariant-loop-i
invariant-loop-i l = Reached (tests l.settings) l.i
