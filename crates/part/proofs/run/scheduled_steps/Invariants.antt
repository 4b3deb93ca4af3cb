-- `part::run::scheduled_steps` meets its contract.
use Rattle.std.proofs.Common.{◌+◌, ◌-◌, ◌≤◌, get_or}
use Rattle.definition.specs.Settings.{Settings}
use Rattle.definition.specs.Directions.{MessageGraph}
use Rattle.definition.specs.Run.{State}
use Rattle.steps.specs.StepChanged.{changed_from}
use Rattle.steps.specs.StepLog.{ChangedBelow}
use Rattle.zero_lookahead.specs.Part.{Given, Runs, KeptFront}
use Rattle.part.specs.RunSteps.{AtStart, Stepped}
use Rattle.part.proofs.run.scheduled_steps.Given as goal

abbrev pub invariant-loop-steps : goal.invariant-loop-steps
invariant-loop-steps l =
    record {
      within : l.steps ≤ l.limit;
      front : KeptFront l.out l.initial.words l.words;
      changed : ChangedBelow (changed_from l.changed) (get_or l.words 0 0 + 1);
      stepped : (s : Settings) (t : MessageGraph) (x : State) → Runs s t l.out l.evidence x l.initial.words l.initial.w → Given s l.settings → AtStart t x
          → Stepped s t l.out l.evidence l.limit x l.steps l.last l.changed l.words l.w;
    }

abbrev pub decreases-loop-steps : goal.decreases-loop-steps
decreases-loop-steps l =
    l.limit - l.steps
