-- How a component's message graph and its message sets stand in lent words and floats. A message set is one row of floats, the messages of the directions one
-- after the other; a row of floats is cut into messages by the directions' lengths.
use Rattle.std.specs.Prelude.{ℕ, ◌+◌, ◌≡◌, List, [], ◌∷◌, ◌++◌, map, Float, length, take, drop}
use Rattle.definition.specs.Lists.{concat}
use Rattle.definition.specs.Vectors.{Message}
use Rattle.definition.specs.Directions.{Direction, MessageNode, MessageGraph}
pub use Rattle.factor_graph.specs.Words.{kind_code}

-- ---- a message set as a row of floats

abbrev pub cut : List Direction → List Float → List Message
cut [] r = []
cut (d ∷ ds) r = take d.message_length r ∷ cut ds (drop d.message_length r)

-- where the message of each direction begins, f being where the first one does; and where the last one ends
abbrev pub offsets_from : ℕ → List Direction → List ℕ
offsets_from f [] = f ∷ []
offsets_from f (d ∷ ds) = f ∷ offsets_from (f + d.message_length) ds

-- how many floats a message set takes
abbrev pub width : List Direction → ℕ
width [] = 0
width (d ∷ ds) = d.message_length + width ds

-- ---- the message graph in words: five rows

-- the first direction that ends at each node, and behind the last node the number of directions
unfoldable pub firsts_of : MessageGraph → List ℕ
firsts_of t = map (λ (x : MessageNode). x.first_incoming) t.nodes ++ length t.directions ∷ []

-- for each direction that by which its end sends back: the nodes' outgoing directions, one list after the other
unfoldable pub outs_of : MessageGraph → List ℕ
outs_of t = concat (map (λ (x : MessageNode). x.outgoing) t.nodes)

-- The words of a message graph: what each row of them is.
pub record GraphRows (t : MessageGraph) (kinds firsts starts outs offsets : List ℕ) : Type 0 where
  pub kinds_are : kinds ≡ map (λ (x : MessageNode). kind_code x.kind) t.nodes
  pub firsts_are : firsts ≡ firsts_of t
  pub starts_are : starts ≡ map (λ (d : Direction). d.start) t.directions
  pub outs_are : outs ≡ outs_of t
  pub offsets_are : offsets ≡ offsets_from 0 t.directions
