-- `messages::directions::fill_node` meets its contract. Whatever graph the record is of: after each turn its rows are filled up to direction d.
use Rattle.std.proofs.Common.{List, ℕ}
use Rattle.definition.specs.Components.{Subgraph}
use Rattle.messages.specs.Directions.{Filled}
use Rattle.messages.proofs.directions.fill_node.Given as goal

abbrev pub invariant-loop-d : goal.invariant-loop-d
invariant-loop-d l =
    (base labels : List ℕ) (g : Subgraph) → Filled base l.at l.out labels g l.initial.d l.initial.words → Filled base l.at l.out labels g l.d l.words
