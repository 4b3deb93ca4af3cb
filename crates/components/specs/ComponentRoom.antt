-- The room that the components of a bale's built graph take, in its grades, markers and pairs.
use Rattle.std.specs.Prelude.{◌≡◌, Bool, true, false, ℕ, ◌+◌, ◌*◌, ◌≤◌, ◌<◌, length}
use Rattle.std.proofs.Math.Path.{refl, sym, ap, subst}
use Rattle.std.proofs.Common.{◌∙◌, arith, length-append}
use mathlib.Core.List.{List, [], ◌∷◌, ◌++◌, map}
use Rattle.std.proofs.Math.ListN.{get_or, length-map}
use Rattle.definition.specs.Lists.{filter, concat, mem, index_of}
use Rattle.definition.specs.FactorGraph.{Bale, Node, eq_node, Edge, eq_edge, built_nodes, built_edges, built_graph, marker_numbers, grades_of, marker_edges, Kind, kind_of, eq_pair}
use Rattle.definition.specs.Settings.{Settings}
use Rattle.definition.specs.Refusals.{Buffers}
use Rattle.definition.specs.Components.{SubgraphNode, incident_edges, component_edges, subgraph_node, subgraph_edge, subgraph, subgraph_of, components_of}
use Rattle.graph_laws.specs.Lists.{All, All-mono, All-at, All-every, All-append, filter-every, mem_self}
use Rattle.graph_laws.specs.Ranks.{NoDup, mem-filter, All-concat-into}
use Rattle.graph_laws.specs.Components.{Both, Holds}
use Rattle.graph_laws.specs.Partition.{part_nodup, components_nodup, components-all}
use Rattle.graph_laws.specs.Positions.{eq_edge_sound, eq_edge-same, add_all_new_nodup, visited_good}
use Rattle.graph_laws.specs.Names.{eq_node_sound, eq_node-same, Valid, built-inside}
use Rattle.graph_laws.specs.Locality.{Part, of_nodes, all-components}
use Rattle.graph_laws.specs.Distinct.{nodes_nodup}
use Rattle.graph_laws.specs.Incident.{to_grade, of_grade, marker_edges-all}
use Rattle.graph_laws.specs.Accepted.{Passes, sized, valid, pairs_apart}
use Rattle.graph_laws.specs.Subsets.{no_longer}
use Rattle.graph_laws.specs.Places.{twice}
use Rattle.graph_laws.specs.Consistency.{nodes_of}
use Rattle.graph_laws.specs.Sizes.{tree_count, nodes-length, edges-length}
use Rattle.graph_laws.specs.AnswerSizes.{components_few}
use Rattle.factor_graph.specs.Words.{label, component_words, components_words}
use Rattle.factor_graph.specs.BuildGroup.{rows, tally}
use Rattle.factor_graph.specs.BuildSort.{zeros}
use Rattle.factor_graph.specs.BuildPlan.{Given, given, plan_words, few_trees, nodes_in, record_words}
use Rattle.list_laws.specs.Put.{put}
use Rattle.components.specs.ComponentGraph.{row_of, words-length}
use Rattle.components.specs.ComponentBuilt.{nodes_are, nodes_count, edges_count}
use Rattle.components.specs.ComponentBuiltWords.{node_total, edge_total, slot_total, built-counts}
use Rattle.components.specs.ComponentMemory.{out_at}

-- the nodes' lists in words are as long as their lists of edges
rows_long : (kind : Node → Kind) (es ls : List (Edge Node)) (p : List Node)
    → length (concat (map row_of (map (subgraph_node eq_node kind es ls) p))) ≡ length (concat (map (incident_edges eq_node es) p))
rows_long kind es ls [] = refl
rows_long kind es ls (v ∷ p) =
    let r = map row_of (map (subgraph_node eq_node kind es ls) p) in
    let row = (subgraph_node eq_node kind es ls v).edges in
    length-append row (concat r)
    ∙ omega (arith, length-map (incident_edges eq_node es v) (λ e. index_of (eq_edge eq_node) e ls), rows_long kind es ls p, length-append (incident_edges eq_node es v) (concat (map (incident_edges eq_node es) p)))

lists_append : {A B : Type 0} (f : A → List B) (xs ys : List A) → length (concat (map f (xs ++ ys))) ≡ length (concat (map f xs)) + length (concat (map f ys))
lists_append f [] ys = omega arith
lists_append f (x ∷ xs) ys =
    length-append (f x) (concat (map f (xs ++ ys))) ∙ omega (arith, lists_append f xs ys, length-append (f x) (concat (map f xs)))

-- no edge is built from a node to itself
straight : (b : Bale) → All (λ e. eq_node e.node1 e.node2 ≡ false) (built_edges b)
straight b =
    All-concat-into P (λ m. marker_edges m (grades_of b.pairs m)) (marker_numbers b)
    (All-every (λ m. All P (marker_edges m (grades_of b.pairs m)))
    (λ m.
    marker_edges-all P m (grades_of b.pairs m) (λ t. (refl, All-every (λ g. P (to_grade m g)) (λ g. refl) (grades_of b.pairs m)))
    (λ t. All-every (λ g. P (of_grade m g)) (λ g. refl) (grades_of b.pairs m)) refl)
    (marker_numbers b))
  where
    P : Edge Node → Type 0
    P e = eq_node e.node1 e.node2 ≡ false

module _ (b : Bale) (valid : Valid b) where
  abbrev es : List (Edge Node)
  es = built_edges b

  -- how long the lists of the nodes of p are together
  abbrev slots : List Node → ℕ
  slots p = length (concat (map (incident_edges eq_node (built_edges b)) p))

  -- a list that has every node once has each edge twice in its lists
  slots-all : (p : List Node) → NoDup eq_node p → All (λ v. mem eq_node v p ≡ true) (built_nodes b) → slots p ≡ 2 * length (built_edges b)
  slots-all p once h =
      twice eq_node eq_node_sound eq_node-same p once es (All-mono Ends (Both eq_node p) (λ e q. q.0 ∙ sym q.1) es ends) (straight b)
      ∙ ap (λ (l : List (Edge Node)). 2 * length l) (filter-every (λ e. mem eq_node e.node1 p) es (All-mono Ends (λ e. mem eq_node e.node1 p ≡ true) (λ e q. q.0) es ends))
    where
      Ends : Edge Node → Type 0
      Ends e = (mem eq_node e.node1 p ≡ true) × (mem eq_node e.node2 p ≡ true)

      inside-to : (v : Node) → Holds eq_node (built_nodes b) v → mem eq_node v p ≡ true
      inside-to v m = All-at eq_node eq_node_sound (λ u. mem eq_node u p ≡ true) (built_nodes b) h v m

      ends : All Ends es
      ends =
          All-mono (λ e. Holds eq_node (built_nodes b) e.node1 × Holds eq_node (built_nodes b) e.node2) Ends
          (λ e q. (inside-to e.node1 q.0, inside-to e.node2 q.1)) es (built-inside b valid)

  -- a component's record
  module _ (p : List Node) (is : Part b valid p) where
    abbrev ls : List (Edge Node)
    ls = component_edges eq_node es p

    abbrev mine : Edge Node → Bool
    mine e = mem eq_node e.node1 p

    both : All (Both eq_node p) es
    unfolding built_graph
    both = is.both

    p_once : NoDup eq_node p
    unfolding built_graph
    p_once = subst (NoDup eq_node) is.is (part_nodup eq_node eq_node_sound eq_node-same (built_graph b) (built-inside b valid) is.done is.root)

    E-sound : (e f : Edge Node) → eq_edge eq_node e f ≡ true → e ≡ f
    E-sound = eq_edge_sound eq_node eq_node_sound eq_node-same

    E-same : (e : Edge Node) → eq_edge eq_node e e ≡ true
    E-same = eq_edge-same eq_node eq_node_sound eq_node-same

    edges-half : 2 * length ls ≤ slots p
    edges-half =
        let few = no_longer (eq_edge eq_node) E-sound E-same ls (filter mine es) (add_all_new_nodup eq_node eq_node_sound eq_node-same [] (concat (map (incident_edges eq_node es) p)) tt)
        (All-mono (λ e. (mem (eq_edge eq_node) e es ≡ true) × (Holds eq_node p e.node1 × Holds eq_node p e.node2)) (λ e. mem (eq_edge eq_node) e (filter mine es) ≡ true)
        (λ e g. mem-filter (eq_edge eq_node) E-sound E-same mine e es ∙ rw (g.0, g.1.0)) ls (visited_good eq_node eq_node_sound eq_node-same es p both))
        in
        omega (arith, few, twice eq_node eq_node_sound eq_node-same p p_once es both (straight b))

    edges_of_lem : length (subgraph_of b p).edges ≡ length ls
    unfolding subgraph_of subgraph built_graph
    edges_of_lem = length-map ls (subgraph_edge eq_node es p)

    rows_of : length (concat (map row_of (subgraph_of b p).nodes)) ≡ slots p
    unfolding subgraph_of subgraph built_graph
    rows_of = rows_long (kind_of b) es ls p

    record_long : 2 * length (component_words b p) ≤ 6 + 6 * length p + 7 * slots p
    unfolding component_words
    record_long =
        omega
        (arith, words-length (map label p) (subgraph_of b p) (length-map p label ∙ sym (nodes_of b p)), nodes_of b p, rows_of, edges_of_lem, edges-half)

  records_long : (ps : List (List Node)) → All (Part b valid) ps
      → 2 * length (concat (map (component_words b) ps)) ≤ 6 * length ps + 6 * length (concat ps) + 7 * slots (concat ps)
  records_long [] h = omega arith
  records_long (p ∷ ps) h =
      omega
      (arith, record_long p h.0, records_long ps h.1, length-append (component_words b p) (concat (map (component_words b) ps)), length-append p (concat ps), lists_append (incident_edges eq_node es) p (concat ps))

  abbrev all : List Node
  all = concat (components_of b)

  all_once : NoDup eq_node all
  unfolding components_of built_graph
  all_once = components_nodup eq_node eq_node_sound eq_node-same (built_graph b) (built-inside b valid)

  all-met : All (λ v. mem eq_node v all ≡ true) (built_nodes b)
  unfolding components_of built_graph
  all-met = components-all eq_node eq_node_sound eq_node-same (built_graph b) (built-inside b valid)

  all-inside : (ps : List (List Node)) → All (Part b valid) ps → All (Holds eq_node (built_nodes b)) (concat ps)
  all-inside [] h = tt
  all-inside (p ∷ ps) h = All-append (Holds eq_node (built_nodes b)) p (concat ps) (of_nodes b valid p h.0) (all-inside ps h.1)

  all_few : length all ≤ length (built_nodes b)
  all_few = no_longer eq_node eq_node_sound eq_node-same all (built_nodes b) all_once (all-inside (components_of b) (all-components b valid))

  -- all records together
  pub components-long : length (components_words b) ≤ 6 * length (built_nodes b) + 7 * length (built_edges b)
  unfolding components_words
  components-long =
      omega
      (arith, records_long (components_of b) (all-components b valid), components_few b valid, all_few, slots-all all all_once all-met)

  module _ (once : NoDup eq_pair b.pairs) where
    -- each edge has two slots
    pub slots_twice : slot_total b ≡ 2 * edge_total b
    slots_twice =
        ap (λ (l : List SubgraphNode). length (concat (map row_of l))) (nodes_are b valid once)
        ∙ rows_long (kind_of b) es es (built_nodes b)
        ∙ slots-all (built_nodes b) (nodes_nodup b) (mem_self eq_node eq_node-same (built_nodes b))
        ∙ ap (λ (k : ℕ). 2 * k) (sym (edges_count b valid once))

    module _ (g : b.grades ≤ 1024) (m : length b.markers ≤ 1024) (q : length b.pairs ≤ 8192) where
      abbrev counts : List ℕ
      counts = tally b.pairs (zeros 1024)

      abbrev sorted : List ℕ
      sorted = put (zeros 8192) 0 (rows (grades_of b.pairs) (length b.markers))

      gives : Given counts sorted b.grades (length b.markers) b.pairs
      gives = given b.grades (length b.markers) b.pairs counts sorted valid once g m q refl refl

      nodes_in_lem : nodes_in counts b.grades (length b.markers) ≡ node_total b
      unfolding record_words
      nodes_in_lem = ap (λ (w : List ℕ). get_or w 0 0) (plan_words counts sorted b.grades (length b.markers) b.pairs gives b refl refl refl) ∙ (built-counts b valid once).0

      -- at most half as many trees as pairs
      trees_few : 2 * tree_count b ≤ length b.pairs
      trees_few = omega (arith, few_trees counts sorted b.grades (length b.markers) b.pairs gives, nodes_in_lem, nodes_count b valid once, nodes-length b)

      -- The graph's record, the scratch and the components' records.
      pub components_room : out_at (node_total b) (edge_total b) (slot_total b) + length (components_words b) ≤ 37 * (b.grades + length b.markers + length b.pairs) + 3
      components_room =
          omega
          (arith, components-long, slots_twice, trees_few, nodes_count b valid once, edges_count b valid once, nodes-length b, edges-length b valid)

      pub components_small : (node_total b < 4294967296) × (length (components_words b) < 4294967296)
      components_small = (omega (arith, components_room, g, m, q), omega (arith, components_room, g, m, q))

-- and so of an accepted bale
pub accepted_room : (s : Settings) (f : Buffers) (b : Bale) → Passes s f b
    → out_at (node_total b) (edge_total b) (slot_total b) + length (components_words b) ≤ 37 * (b.grades + length b.markers + length b.pairs) + 3
accepted_room s f b p =
    let z = sized b p.sizes.0 in
    components_room b (valid b p.known) (pairs_apart b p.once) z.grades z.markers z.pairs
