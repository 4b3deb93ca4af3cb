-- `part::beliefs::write_beliefs` meets its contract.
use Rattle.std.proofs.Common.{◌≡◌, List, ◌*◌, ◌≤◌, length, take}
use Rattle.definition.specs.Settings.{Settings}
use Rattle.definition.specs.FactorGraph.{Node}
use Rattle.definition.specs.Vectors.{Message}
use Rattle.definition.specs.Directions.{MessageGraph}
use Rattle.definition.specs.Answer.{beliefs_among}
use Rattle.part.specs.Named.{Believed}
use Rattle.part.specs.Beliefs.{BeliefRows}
use Rattle.part.proofs.beliefs.write_beliefs.Given as goal

abbrev pub invariant-loop-n : goal.invariant-loop-n
invariant-loop-n l =
    (s : Settings) (t : MessageGraph) (ms : List Message) (ns : List Node) → BeliefRows s t ms ns l.kinds l.labels l.firsts l.offsets l.w
    → s.prior ≡ l.prior → length (beliefs_among s ms ns t.nodes) ≤ length l.initial.numbers
    → 2 * length (beliefs_among s ms ns t.nodes) ≤ length l.initial.floats
    → Believed (beliefs_among s ms (take l.n ns) (take l.n t.nodes)) l.initial.numbers l.initial.floats l.k l.numbers l.floats
