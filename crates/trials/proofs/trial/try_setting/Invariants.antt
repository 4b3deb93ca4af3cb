-- `trial::try_setting` meets its contract. The loop's invariant: so many bales are tried, and the work is as it was.
use Rattle.std.proofs.Common.{◌≡◌}
use Rattle.draws.specs.Model.{setting_in}
use Rattle.reads.specs.Ran.{settings_in}
use Rattle.trials.specs.Setting.{TriedSetting}
use Rattle.trials.proofs.trial.try_setting.Given as goal

abbrev pub invariant-loop : goal.invariant-loop
invariant-loop l =
    record {
      floats : l.work_floats ≡ l.initial.work_floats;
      numbers : l.work_numbers ≡ l.initial.work_numbers;
      tried : TriedSetting (settings_in l.settings) (setting_in l.setting) l.grades l.markers l.pairs l.counter l.seed l.trial;
    }
