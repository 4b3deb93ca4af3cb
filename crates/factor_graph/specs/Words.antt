-- A graph in words: how the built graph, and each of its components, stands in the lent u32 work.
use Rattle.std.specs.Prelude.{ℕ, ◌+◌, List, [], ◌∷◌, ◌++◌, map, length}
use Rattle.definition.specs.Lists.{concat}
use Rattle.definition.specs.FactorGraph.{Bale, Node, grade_node, factor_node, input_node, tree_node, eq_node, built_nodes, built_edges, Kind, grade, factor, input, tree, kind_of}
use Rattle.definition.specs.Components.{SubgraphNode, SubgraphEdge, Subgraph, subgraph_node, subgraph_edge, subgraph_of, components_of}

-- ---- the record of a graph: node count, edge count, kinds, labels, first slots, slots, edges

abbrev pub kind_code : Kind → ℕ
kind_code grade = 0
kind_code (factor d) = 1
kind_code (input e) = 2
kind_code (tree d) = 3

-- five words: the two ends, the place of each in the other's list, and the messages' length
abbrev pub edge_words : SubgraphEdge → List ℕ
edge_words e = e.node1 ∷ e.node2 ∷ e.node2_in_node1 ∷ e.node1_in_node2 ∷ e.message_length ∷ []

-- where the list of each node begins among the slots, and where the last one ends
abbrev pub first_slots : ℕ → List SubgraphNode → List ℕ
first_slots f [] = f ∷ []
first_slots f (x ∷ xs) = f ∷ first_slots (f + length x.edges) xs

-- A slot holds the number of an edge: the slots of a node are its incident edges.
unfoldable pub graph_words : List ℕ → Subgraph → List ℕ
graph_words labels g =
    length g.nodes ∷ length g.edges ∷ map (λ (x : SubgraphNode). kind_code x.kind) g.nodes
    ++ (labels ++ (first_slots 0 g.nodes ++ (concat (map (λ (x : SubgraphNode). x.edges) g.nodes) ++ concat (map edge_words g.edges))))

-- a grade's number, or the number of the marker that a factor, an input or a tree belongs to
abbrev pub label : Node → ℕ
label (grade_node g) = g
label (factor_node m) = m
label (input_node m) = m
label (tree_node m) = m

-- ---- the built graph by numbers, and its components

-- the numbers of nodes and edges are their places in `built_nodes` and `built_edges`
unfoldable pub numbered_graph : Bale → Subgraph
numbered_graph b =
    record {
      nodes = map (subgraph_node eq_node (kind_of b) (built_edges b) (built_edges b)) (built_nodes b);
      edges = map (subgraph_edge eq_node (built_edges b) (built_nodes b)) (built_edges b);
    }

unfoldable pub built_words : Bale → List ℕ
built_words b = graph_words (map label (built_nodes b)) (numbered_graph b)

unfoldable pub component_words : Bale → List Node → List ℕ
component_words b p = graph_words (map label p) (subgraph_of b p)

-- one record after the other
unfoldable pub components_words : Bale → List ℕ
components_words b = concat (map (component_words b) (components_of b))
