-- `trial::settings_under` meets its contract.
use native.Mathlib.Nat.{le_of_lt}
use Rattle.trial_laws.specs.Range.{below}
use Rattle.trials.proofs.trial.settings_under.Goals as goal

pub over_1024-requires : goal.over_1024-requires
over_1024-requires c = le_of_lt (below _ c.requires.alpha)

pub over_1024-requires-2 : goal.over_1024-requires-2
over_1024-requires-2 c = le_of_lt (below _ c.requires.beta)

pub over_1024-requires-3 : goal.over_1024-requires-3
over_1024-requires-3 c = le_of_lt (below _ c.requires.prior)

pub returns : goal.returns
returns c =
    let s = c.args in
    λ i. record {
      alpha = c.over_1024.ensures i;
      beta = c.over_1024-2.ensures i;
      prior = c.over_1024-3.ensures i;
      regularised = s.regularised;
      tolerance = s.tolerance;
      loop_limit = s.loop_limit;
    }
