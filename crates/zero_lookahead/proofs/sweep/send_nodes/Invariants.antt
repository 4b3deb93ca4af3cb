-- `zero_lookahead::sweep::send_nodes` meets its contract: the first n nodes have sent.
use Rattle.definition.specs.Settings as definition
use Rattle.definition.specs.Directions.{MessageGraph}
use Rattle.definition.specs.Sweeps.{Store}
use Rattle.zero_lookahead.specs.Part.{Given, StandsFor, KeptFront}
use Rattle.zero_lookahead.specs.SweepLoop.{Swept}
use Rattle.zero_lookahead.proofs.sweep.send_nodes.Given as goal

abbrev pub invariant-loop-n : goal.invariant-loop-n
invariant-loop-n l =
    KeptFront l.out l.initial.words l.words
    × ((s : definition.Settings) (t : MessageGraph) (x : Store) → StandsFor s t l.out l.evidence x l.initial.words l.initial.w → Given s l.settings
    → Swept s t l.out l.evidence x l.n l.words l.w)
