-- `part::run::five_sweeps` meets its contract.
use Rattle.definition.specs.Settings.{Settings}
use Rattle.definition.specs.Directions.{MessageGraph}
use Rattle.definition.specs.Sweeps.{Store}
use Rattle.zero_lookahead.specs.Part.{Given, StandsFor, KeptFront}
use Rattle.part.specs.RunSweeps.{swept}
use Rattle.part.proofs.run.five_sweeps.Given as goal

abbrev pub invariant-loop : goal.invariant-loop
invariant-loop l =
    KeptFront l.out l.initial.words l.words
    × ((s : Settings) (t : MessageGraph) (x : Store) → StandsFor s t l.out l.evidence x l.initial.words l.initial.w → Given s l.settings
    → StandsFor s t l.out l.evidence (swept s t l.counter x) l.words l.w)
