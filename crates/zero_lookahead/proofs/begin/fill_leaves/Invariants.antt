-- `zero_lookahead::begin::fill_leaves` meets its contract: the keys of the first d leaves are written.
use Rattle.std.proofs.Common.{◌≡◌, List}
use lib.Ieee.{Float}
use Rattle.definition.specs.Settings.{Settings}
use Rattle.definition.specs.Directions.{MessageGraph}
use Rattle.definition.specs.Sweeps.{Store}
use Rattle.list_laws.specs.Write.{write}
use Rattle.zero_lookahead.specs.Part.{Given, StandsFor}
use Rattle.zero_lookahead.specs.BeginKeys.{leaf_key}
use Rattle.zero_lookahead.proofs.begin.fill_leaves.Given as goal

abbrev pub invariant-loop-d : goal.invariant-loop-d
invariant-loop-d l =
    (s : Settings) (t : MessageGraph) (evidence : List Float) (x : Store) → StandsFor s t l.out evidence x l.initial.words l.w → Given s l.settings
    → l.words ≡ write l.initial.words l.at l.d (leaf_key s t x)
