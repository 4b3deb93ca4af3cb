-- A component as messages pass through it: the two directions of each edge, in one row (`msg_in` of src/messages.rs is indexed by end node and position;
-- direction number d is the d-th such pair, node by node, position by position. `Consistent` of graph_laws says what the numbers mean by nodes and edges).
use Rattle.std.specs.Prelude.{ℕ, suc, ◌+◌, cond, List, [], ◌∷◌, ◌++◌, map, eqb, length, get_or, take, drop, set}
use Rattle.definition.specs.Lists.{range}
use Rattle.definition.specs.Vectors.{Message}
use Rattle.definition.specs.FactorGraph.{Bale, Node, Kind, grade}
use Rattle.definition.specs.Components.{SubgraphNode, SubgraphEdge, Subgraph, subgraph_of}

-- A direction is an end node and a position in that node's list: it stands for the message that the end holds from its neighbour there. `start` is the
-- neighbour, `start_in_end` the position, `end_in_start` the end's position in the neighbour's list (the Rust's start_in_end_id and end_in_start_id).
-- A set of messages is a list with one message for each direction, in that order.
pub record Direction : Type 0 where
  pub start : ℕ
  pub end_in_start : ℕ
  pub end : ℕ
  pub start_in_end : ℕ
  pub message_length : ℕ

-- A node: its kind, the first of the directions that end at it, and for each of its positions the direction by which it sends to its neighbour there.
pub record MessageNode : Type 0 where
  pub kind : Kind
  pub first_incoming : ℕ
  pub outgoing : List ℕ

pub record MessageGraph : Type 0 where
  pub nodes : List MessageNode
  pub directions : List Direction

-- ---- made of a component's graph

abbrev pub no_edge : SubgraphEdge
no_edge = record { node1 = 0; node2 = 0; node2_in_node1 = 0; node1_in_node2 = 0; message_length = 0 }

unfoldable pub edge_at : Subgraph → ℕ → SubgraphEdge
edge_at g e = get_or g.edges e no_edge

-- edge x as the direction that ends at n
unfoldable pub direction_to : ℕ → SubgraphEdge → Direction
direction_to n x =
    cond (eqb x.node1 n)
    (record { start = x.node2; end_in_start = x.node1_in_node2; end = n; start_in_end = x.node2_in_node1; message_length = x.message_length })
    (record { start = x.node1; end_in_start = x.node2_in_node1; end = n; start_in_end = x.node1_in_node2; message_length = x.message_length })

-- the directions of the nodes, the first of them being node n
unfoldable pub directions_to : Subgraph → ℕ → List SubgraphNode → List Direction
directions_to g n [] = []
directions_to g n (x ∷ xs) = map (λ (e : ℕ). direction_to n (edge_at g e)) x.edges ++ directions_to g (suc n) xs

-- the first direction of each node, f being the first of all
unfoldable pub firsts_incoming : ℕ → List SubgraphNode → List ℕ
firsts_incoming f [] = []
firsts_incoming f (x ∷ xs) = f ∷ firsts_incoming (f + length x.edges) xs

-- by which direction node n sends along edge x, fs being the first directions
unfoldable pub direction_from : List ℕ → ℕ → SubgraphEdge → ℕ
direction_from fs n x = let d = direction_to n x in get_or fs d.start 0 + d.end_in_start

unfoldable pub message_nodes_from : Subgraph → List ℕ → ℕ → List SubgraphNode → List MessageNode
message_nodes_from g fs n [] = []
message_nodes_from g fs n (x ∷ xs) =
    record { kind = x.kind; first_incoming = get_or fs n 0; outgoing = map (λ (e : ℕ). direction_from fs n (edge_at g e)) x.edges } ∷ message_nodes_from g fs (suc n) xs

unfoldable pub message_graph : Subgraph → MessageGraph
message_graph g = record { nodes = message_nodes_from g (firsts_incoming 0 g.nodes) 0 g.nodes; directions = directions_to g 0 g.nodes }

-- of component p of bale b
unfoldable pub message_graph_of : Bale → List Node → MessageGraph
message_graph_of b p = message_graph (subgraph_of b p)

-- ---- read by number

abbrev pub no_message_node : MessageNode
no_message_node = record { kind = grade; first_incoming = 0; outgoing = [] }

abbrev pub no_direction : Direction
no_direction = record { start = 0; end_in_start = 0; end = 0; start_in_end = 0; message_length = 0 }

abbrev pub node_at : MessageGraph → ℕ → MessageNode
node_at t n = get_or t.nodes n no_message_node

abbrev pub direction_at : MessageGraph → ℕ → Direction
direction_at t d = get_or t.directions d no_direction

-- the message of direction d; the directions that end at a node, and all that it holds
abbrev pub message_at : ℕ → List Message → Message
message_at d ms = get_or ms d []

abbrev pub incoming : MessageNode → List ℕ
incoming x = range x.first_incoming (length x.outgoing)

abbrev pub messages_in : MessageNode → List Message → List Message
messages_in x ms = take (length x.outgoing) (drop x.first_incoming ms)

-- ---- written

-- a message to each direction of a list
unfoldable pub set_messages : List ℕ → List Message → List Message → List Message
set_messages [] ms l = l
set_messages (o ∷ os) [] l = l
set_messages (o ∷ os) (m ∷ ms) l = set_messages os ms (set l o m)

-- all that a node holds, copied from one set to another; and so for each node of a list
unfoldable pub copy_node : List Message → MessageNode → List Message → List Message
copy_node from x to = set_messages (incoming x) (messages_in x from) to

unfoldable pub copy_nodes : MessageGraph → List Message → List ℕ → List Message → List Message
copy_nodes t from [] to = to
copy_nodes t from (n ∷ ns) to = copy_nodes t from ns (copy_node from (node_at t n) to)
