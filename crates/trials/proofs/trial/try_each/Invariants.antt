-- `trial::try_each` meets its contract. The loop's invariant: the first i settings are reported, and the work is as it was.
use Rattle.std.proofs.Common.{◌≡◌}
use Rattle.trials.specs.Each.{EachTo}
use Rattle.trials.proofs.trial.try_each.Given as goal

abbrev pub invariant-loop-i : goal.invariant-loop-i
invariant-loop-i l =
    record {
      floats : l.work_floats ≡ l.initial.work_floats;
      numbers : l.work_numbers ≡ l.initial.work_numbers;
      each : EachTo l.settings l.seed l.bales l.regularised l.tolerance l.loop_limit l.grades l.markers l.pairs l.initial.report l.i l.report;
    }
