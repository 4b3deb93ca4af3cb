-- `messages::directions::fill_directions` meets its contract.
-- Whatever graph the record is of: after n turns its rows are filled up to the first direction of node n.
use Rattle.std.proofs.Common.{◌≡◌, List, ℕ, ◌+◌, get_or}
use Rattle.definition.specs.Components.{Subgraph}
use Rattle.definition.specs.Directions.{message_graph}
use Rattle.messages.specs.Layout.{firsts_of}
use Rattle.messages.specs.Directions.{Filled}
use Rattle.messages.proofs.directions.fill_directions.Given as goal

abbrev pub invariant-loop-n : goal.invariant-loop-n
invariant-loop-n l =
    (l.nodes ≡ get_or l.initial.words l.at 0)
    × (l.edges ≡ get_or l.initial.words (l.at + 1) 0)
    × ((base labels : List ℕ) (g : Subgraph) → Filled base l.at l.out labels g 0 l.initial.words
    → Filled base l.at l.out labels g (get_or (firsts_of (message_graph g)) l.n 0) l.words)
