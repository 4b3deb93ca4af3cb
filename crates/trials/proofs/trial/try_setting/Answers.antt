-- `trial::try_setting` meets its contract. The loop's invariant: so many bales are tried, and the work is as it was.
use Rattle.std.proofs.Common.{arith, refl, ◌∙◌}
use Rattle.trials.specs.Setting.{tried_none, tried_next, tried_room}
use Rattle.trials.proofs.trial.try_setting.Goals as goal

pub loop-init : goal.loop-init
loop-init c = record { floats = refl; numbers = refl; tried = tried_none _ _ _ _ _ _ _ refl refl refl }

pub try_bale-trial-requires-clause-agreed_bound : goal.try_bale-trial-requires-clause-agreed_bound
try_bale-trial-requires-clause-agreed_bound c = tried_room _ _ _ _ _ c.loop.counter _ _ c.requires.0.grades (omega arith) c.loop.invariant.tried

pub loop-preserved : goal.loop-preserved
loop-preserved c =
    let i = c.loop.invariant in
    let b = c.try_bale-trial.ensures in
    record {
      floats = b.work_floats_unchanged.0 ∙ i.floats;
      numbers = b.work_floats_unchanged.1 ∙ i.numbers;
      tried = tried_next _ _ _ _ _ c.loop.counter _ _ _ i.tried b.tried_bale;
    }
