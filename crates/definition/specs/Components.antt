-- The connected components of a graph, each a graph of its own (`connected_components` of src/factor_graph.rs). Document 01 calls a component a part.
use Rattle.std.specs.Prelude.{ℕ, zero, suc, Bool, cond, not, ◌||◌, List, [], ◌∷◌, ◌++◌, map, length}
use Rattle.definition.specs.Lists.{cons_if, filter, concat, mem, index_of}
use Rattle.definition.specs.FactorGraph.{Bale, Node, eq_node, Edge, Graph, eq_edge, built_graph, Kind, kind_of}

-- ---- a node's incident edges, in the order of their numbers, and its neighbours in that order

module _ {A : Type 0} (eq : A → A → Bool) where
  abbrev pub is_incident : A → Edge A → Bool
  is_incident v e = eq v e.node1 || eq v e.node2

  -- the other end of edge e, seen from v
  abbrev pub other_end : A → Edge A → A
  other_end v e = cond (eq v e.node1) e.node2 e.node1

  abbrev pub incident_edges : List (Edge A) → A → List (Edge A)
  incident_edges es v = filter (is_incident v) es

  abbrev pub neighbours : List (Edge A) → A → List A
  neighbours es v = map (other_end v) (incident_edges es v)

-- ---- the walk: depth first, a node numbered when it is first met

-- the nodes met in this component, in the order met, and the stack, its top first
pub record Search (A : Type 0) : Type 0 where
  pub visited : List A
  pub stack : List A

-- `done` are the nodes of the components before this one
module _ {A : Type 0} (eq : A → A → Bool) (done : List A) where
  abbrev pub is_visited : Search A → A → Bool
  is_visited s n = mem eq n s.visited || mem eq n done

  -- a node that was not met is met, and pushed; and so for each node of a list
  abbrev pub visit : A → Search A → Search A
  visit n s = cond (is_visited s n) s (record { visited = s.visited ++ n ∷ []; stack = n ∷ s.stack })

  abbrev pub visit_all : List A → Search A → Search A
  visit_all [] s = s
  visit_all (n ∷ ns) s = visit_all ns (visit n s)

-- `nb` has the neighbours of each node
module _ {A : Type 0} (eq : A → A → Bool) (done : List A) (nb : A → List A) where
  -- a node is popped, and its neighbours are visited
  abbrev pub pop_node : List A → List A → Search A
  pop_node met [] = record { visited = met; stack = [] }
  pop_node met (v ∷ rest) = visit_all eq done (nb v) (record { visited = met; stack = rest })

  abbrev pub walk_step : Search A → Search A
  walk_step s = pop_node s.visited s.stack

  -- so many times
  unfoldable pub walk : ℕ → Search A → Search A
  walk zero s = s
  walk (suc k) s = walk k (walk_step s)

abbrev pub walk_start : {A : Type 0} → A → Search A
walk_start v = record { visited = v ∷ []; stack = v ∷ [] }

-- ---- the components, each the list of its nodes in the order met

module _ {A : Type 0} (eq : A → A → Bool) where
  -- the walk from v. Each node is popped once at most, so that as many steps as there are nodes leave the stack empty.
  abbrev pub component_from : Graph A → List A → A → Search A
  component_from G done v = walk eq done (neighbours eq G.edges) (length G.nodes) (walk_start v)

  -- from each node of the list that no earlier component has
  abbrev pub components_from : Graph A → List A → List A → List (List A)
  components_from G [] done = []
  components_from G (v ∷ vs) done =
      cons_if (not (mem eq v done)) (component_from G done v).visited (components_from G vs (cond (mem eq v done) done ((component_from G done v).visited ++ done)))

  unfoldable pub components : Graph A → List (List A)
  components G = components_from G G.nodes []

unfoldable pub components_of : Bale → List (List Node)
components_of b = components eq_node (built_graph b)

-- ---- a component as a graph

-- A node: its kind, and the numbers of its incident edges. An edge: the numbers of its two nodes, the place of each in the other's list, and its messages' length.
pub record SubgraphNode : Type 0 where
  pub kind : Kind
  pub edges : List ℕ

pub record SubgraphEdge : Type 0 where
  pub node1 : ℕ
  pub node2 : ℕ
  pub node2_in_node1 : ℕ
  pub node1_in_node2 : ℕ
  pub message_length : ℕ

pub record Subgraph : Type 0 where
  pub nodes : List SubgraphNode
  pub edges : List SubgraphEdge

-- a list, and after it each thing of another list that it does not have yet
module _ {X : Type 0} (eq_x : X → X → Bool) where
  abbrev pub add_if_new : List X → X → List X
  add_if_new seen e = cond (mem eq_x e seen) seen (seen ++ e ∷ [])

  abbrev pub add_all_new : List X → List X → List X
  add_all_new seen [] = seen
  add_all_new seen (e ∷ es) = add_all_new (add_if_new seen e) es

module _ {A : Type 0} (eq : A → A → Bool) where
  -- the component's edges, as its nodes' lists have them, each at first sight
  abbrev pub component_edges : List (Edge A) → List A → List (Edge A)
  component_edges es p = add_all_new (eq_edge eq) [] (concat (map (incident_edges eq es) p))

  abbrev pub subgraph_node : (A → Kind) → List (Edge A) → List (Edge A) → A → SubgraphNode
  subgraph_node kind es ls v = record { kind = kind v; edges = map (λ e. index_of (eq_edge eq) e ls) (incident_edges eq es v) }

  abbrev pub subgraph_edge : List (Edge A) → List A → Edge A → SubgraphEdge
  subgraph_edge es p e =
      record {
        node1 = index_of eq e.node1 p;
        node2 = index_of eq e.node2 p;
        node2_in_node1 = index_of (eq_edge eq) e (incident_edges eq es e.node1);
        node1_in_node2 = index_of (eq_edge eq) e (incident_edges eq es e.node2);
        message_length = e.message_length;
      }

  -- A node's number is its place in the component, an edge's its place among the component's edges. Places in lists are those of the whole graph.
  unfoldable pub subgraph : (A → Kind) → List (Edge A) → List A → Subgraph
  subgraph kind es p = record { nodes = map (subgraph_node kind es (component_edges es p)) p; edges = map (subgraph_edge es p) (component_edges es p) }

unfoldable pub subgraph_of : Bale → List Node → Subgraph
subgraph_of b p = subgraph eq_node (kind_of b) (built_graph b).edges p
