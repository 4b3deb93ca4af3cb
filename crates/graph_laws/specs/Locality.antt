-- Locality of the graph: a part entered by itself has one part, and its local graph is the part's. And each edge of a part names itself at its two positions.
use Rattle.std.specs.Prelude.{◌≡◌, List, [], ◌∷◌, map}
use Rattle.graph_laws.specs.Lists.{All, All-mono, mem_self}
use Rattle.definition.specs.FactorGraph.{Bale, Node, eq_node, built_graph, built_nodes, built_edges, kind_of}
use Rattle.definition.specs.Components.{components_of, subgraph_of}
use Rattle.definition.specs.PartAlone.{part_alone, grades_in, markers_in}
use Rattle.graph_laws.specs.Components.{Holds, IsComponent, components_are, part-inside, ends_of_both}
use Rattle.graph_laws.specs.OneComponent.{only}
use Rattle.graph_laws.specs.Isomorphism.{subgraph-map}
use Rattle.graph_laws.specs.Names.{eq_node_sound, eq_node-same, Valid, built-inside}
use Rattle.graph_laws.specs.Positions.{Named, names_itself}
use Rattle.graph_laws.specs.Renumbering.{name, name_inj, carried, new-nodes, valid_alone, kinds}

module _ (b : Bale) (valid : Valid b) where
  abbrev pub Part : List Node → Type 0
  Part p = IsComponent eq_node (built_graph b) p

  module _ (p : List Node) (is : Part p) where
    pub of_nodes : All (Holds eq_node (built_nodes b)) p
    unfolding built_graph
    of_nodes = part-inside eq_node eq_node_sound eq_node-same (built_graph b) (built-inside b valid) p is

    -- the only part of the part entered by itself
    pub alone-components : components_of (part_alone b p) ≡ map (name (grades_in b p) (markers_in b p)) p ∷ []
    unfolding built_graph components_of
    alone-components =
        only eq_node eq_node_sound eq_node-same eq_node eq_node_sound eq_node-same (built_graph b) (built-inside b valid) (built_graph (part_alone b p))
        (built-inside (part_alone b p) (valid_alone b valid p is.both of_nodes)) p is (name (grades_in b p) (markers_in b p))
        (name_inj b valid p is.both of_nodes) (ends_of_both eq_node eq_node_sound eq_node-same p (built_edges b) is.both)
        (carried b valid p is.both of_nodes) (new-nodes b valid p is.both of_nodes)

    -- and its local graph is the part's
    pub alone-subgraph : subgraph_of (part_alone b p) (map (name (grades_in b p) (markers_in b p)) p) ≡ subgraph_of b p
    unfolding built_graph subgraph_of
    alone-subgraph =
        subgraph-map eq_node eq_node (name (grades_in b p) (markers_in b p)) (Holds eq_node p) (name_inj b valid p is.both of_nodes) (built_edges b)
        (built_edges (part_alone b p)) (ends_of_both eq_node eq_node_sound eq_node-same p (built_edges b) is.both) (carried b valid p is.both of_nodes)
        (kind_of b) (kind_of (part_alone b p)) (kinds b valid p is.both of_nodes) p (mem_self eq_node eq_node-same p)

  -- of every part
  pub all-components : All Part (components_of b)
  unfolding built_graph components_of
  all-components = components_are eq_node eq_node_sound eq_node-same (built_graph b) (built-inside b valid)

  pub passes : (p : List Node) → Part p → Valid (part_alone b p)
  unfolding built_graph
  passes p is = valid_alone b valid p is.both (of_nodes p is)

  -- each edge of each part names itself at its two stored positions
  abbrev pub NamesItself : List Node → Type 0
  NamesItself p = Named (map (λ n. n.edges) (subgraph_of b p).nodes) 0 (subgraph_of b p).edges

  pub self_named : All NamesItself (components_of b)
  unfolding built_graph subgraph_of
  self_named = All-mono Part NamesItself (λ p is. names_itself eq_node eq_node_sound eq_node-same (built_edges b) p is.both (kind_of b)) (components_of b) all-components
