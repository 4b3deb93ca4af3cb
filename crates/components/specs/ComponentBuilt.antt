-- The record of the built graph, read by number: it is the graph by numbers.
use Rattle.std.specs.Prelude.{◌≡◌, Bool, true, List, [], ◌∷◌, map, ℕ, zero, suc, ◌+◌, ◌<◌, eqb, length, get_or}
use Rattle.std.proofs.Math.Path.{refl}
use Rattle.std.proofs.Common.{sym, ap, ◌∙◌, add-zero, zero-add, arith}
use Rattle.std.proofs.lemmas.List.{length-map}
use Rattle.definition.specs.Lists.{range, filter, mem, index_of}
use Rattle.definition.specs.FactorGraph.{Bale, Node, grade_node, Edge, eq_node, eq_edge, built_nodes, built_edges, kind_of, eq_pair}
use Rattle.definition.specs.Components.{SubgraphNode, Subgraph, is_incident, incident_edges, subgraph_node, subgraph_edge}
use Rattle.graph_laws.specs.Lists.{All, upto, All-mono, All-filter, All-at, All-in, mem_self, filter_map, filter_cong}
use Rattle.graph_laws.specs.Walk.{index_map}
use Rattle.graph_laws.specs.Ranks.{NoDup, index_lt, index_inj, get_d_map_index, map_index, upto-below}
use Rattle.graph_laws.specs.Isomorphism.{on_edge, Ends, is_incident-map}
use Rattle.graph_laws.specs.Components.{Holds}
use Rattle.graph_laws.specs.Names.{eq_node_sound, eq_node-same, Valid, built-inside}
use Rattle.graph_laws.specs.Distinct.{nodes_nodup, edges_nodup}
use Rattle.graph_laws.specs.Positions.{eq_edge_sound, eq_edge-same}
use Rattle.graph_laws.specs.Numbers.{number, number_inj, no_edge, edge_by_number, incident_numbers}
use Rattle.graph_laws.specs.DirectionNumbers.{get_d_mapped}
use Rattle.factor_graph.specs.Words.{numbered_graph, edge_words}
use Rattle.components.specs.ComponentGraph.{row_of}

pub all_get_d : {A : Type 0} (P : A → Type 0) (xs : List A) → All P xs → (d : A) (i : ℕ) → i < length xs → P (get_or xs i d)
all_get_d P [] h d i q = absurd (let z : ⊥ = omega arith in z)
all_get_d P (x ∷ xs) h d zero q = h.0
all_get_d P (x ∷ xs) h d (suc i) q = all_get_d P xs h.1 d i (omega arith)

pub get_d_range : (a k j : ℕ) → j < k → get_or (range a k) j 0 ≡ a + j
get_d_range a zero j h = absurd (let z : ⊥ = omega arith in z)
get_d_range a (suc k) zero h = sym (add-zero a)
get_d_range a (suc k) (suc j) h = get_d_range (suc a) k j (omega arith) ∙ omega arith

-- the place of the i-th thing of a list without repetition
place_is : {A : Type 0} (eq : A → A → Bool) (sound : (a b : A) → eq a b ≡ true → a ≡ b) (same : (a : A) → eq a a ≡ true) (xs : List A) → NoDup eq xs → (d : A) (i : ℕ) → i < length xs → index_of eq (get_or xs i d) xs ≡ i
place_is eq sound same xs n d i h =
    sym (get_d_mapped (λ a. index_of eq a xs) xs i d 0 h) ∙ ap (λ (l : List ℕ). get_or l i 0) (map_index eq sound same xs n) ∙ (get_d_range 0 (length xs) i h ∙ zero-add i)

module _ (b : Bale) (valid : Valid b) (once : NoDup eq_pair b.pairs) where
  abbrev vs : List Node
  vs = built_nodes b

  abbrev es : List (Edge Node)
  es = built_edges b

  abbrev eq_e : Edge Node → Edge Node → Bool
  eq_e = eq_edge eq_node

  abbrev pub numbered_edges : List (Edge ℕ)
  numbered_edges = map (on_edge (number b)) (built_edges b)

  abbrev edge_number : Edge Node → ℕ
  edge_number e = index_of (eq_edge eq_node) e (built_edges b)

  abbrev Own : Edge Node → Type 0
  Own e = (mem (eq_edge eq_node) e (built_edges b) ≡ true) × Ends (Holds eq_node (built_nodes b)) e

  sound_e : (e f : Edge Node) → eq_edge eq_node e f ≡ true → e ≡ f
  sound_e = eq_edge_sound eq_node eq_node_sound eq_node-same

  same_e : (e : Edge Node) → eq_edge eq_node e e ≡ true
  same_e = eq_edge-same eq_node eq_node_sound eq_node-same

  own-edges : All Own es
  own-edges = All-in eq_e same_e Own es (λ e h. (h, All-at eq_e sound_e (Ends (Holds eq_node vs)) es (built-inside b valid) e h))

  edge-at : (e : Edge Node) → Own e → edge_by_number numbered_edges (edge_number e) ≡ on_edge (number b) e
  edge-at e o = get_d_map_index eq_e sound_e same_e (on_edge (number b)) no_edge e es o.0

  inc_carried : (v : Node) → Holds eq_node vs v → incident_numbers numbered_edges (number b v) ≡ map edge_number (incident_edges eq_node es v)
  inc_carried v h =
      ap (filter (λ k. is_incident eqb (number b v) (edge_by_number numbered_edges k))) (ap upto (length-map es (on_edge (number b))) ∙ sym (map_index eq_e sound_e same_e es (edges_nodup b once)))
      ∙ filter_map edge_number (λ k. is_incident eqb (number b v) (edge_by_number numbered_edges k)) es
      ∙ ap (map edge_number)
      (filter_cong (λ e. is_incident eqb (number b v) (edge_by_number numbered_edges (edge_number e))) (is_incident eq_node v) es
      (All-mono Own (λ e. is_incident eqb (number b v) (edge_by_number numbered_edges (edge_number e)) ≡ is_incident eq_node v e)
      (λ e o. ap (is_incident eqb (number b v)) (edge-at e o) ∙ is_incident-map eq_node eqb (number b) (Holds eq_node vs) (number_inj b) v e h o.1) es own-edges))

  -- ---- nodes by number

  abbrev N : ℕ
  N = length (built_nodes b)

  abbrev E : ℕ
  E = length (built_edges b)

  abbrev g : Subgraph
  g = numbered_graph b

  pub nodes_are : g.nodes ≡ map (subgraph_node eq_node (kind_of b) es es) vs
  unfolding numbered_graph
  nodes_are = refl

  pub edges_are : g.edges ≡ map (subgraph_edge eq_node es vs) es
  unfolding numbered_graph
  edges_are = refl

  pub nodes_count : length (numbered_graph b).nodes ≡ length (built_nodes b)
  nodes_count = ap length nodes_are ∙ length-map vs (subgraph_node eq_node (kind_of b) es es)

  pub edges_count : length (numbered_graph b).edges ≡ length (built_edges b)
  edges_count = ap length edges_are ∙ length-map es (subgraph_edge eq_node es vs)

  abbrev node_of : ℕ → Node
  node_of v = get_or (built_nodes b) v (grade_node 0)

  pub node_holds : (v : ℕ) → v < length (built_nodes b) → Holds eq_node (built_nodes b) (get_or (built_nodes b) v (grade_node 0))
  node_holds v h = all_get_d (λ u. mem eq_node u vs ≡ true) vs (mem_self eq_node eq_node-same vs) (grade_node 0) v h

  pub node-number : (v : ℕ) → v < length (built_nodes b) → number b (get_or (built_nodes b) v (grade_node 0)) ≡ v
  unfolding number
  node-number v h = place_is eq_node eq_node_sound eq_node-same vs (nodes_nodup b) (grade_node 0) v h

  pub node-is : (d : SubgraphNode) (v : ℕ) → v < N → get_or g.nodes v d ≡ subgraph_node eq_node (kind_of b) es es (node_of v)
  node-is d v h = ap (λ (l : List SubgraphNode). get_or l v d) nodes_are ∙ get_d_mapped (subgraph_node eq_node (kind_of b) es es) vs v (grade_node 0) d h

  -- a node's list has the numbers of its incident edges
  pub row_is : (v : ℕ) → v < length (built_nodes b) → get_or (map row_of (numbered_graph b).nodes) v [] ≡ incident_numbers numbered_edges v
  row_is v h =
      get_d_mapped row_of g.nodes v (subgraph_node eq_node (kind_of b) es es (grade_node 0)) [] (rw nodes_count h)
      ∙ ap row_of (node-is (subgraph_node eq_node (kind_of b) es es (grade_node 0)) v h)
      ∙ sym (inc_carried (node_of v) (node_holds v h)) ∙ ap (incident_numbers numbered_edges) (node-number v h)

  pub incident_below : (v : ℕ) → All (λ k. k < length (built_edges b)) (incident_numbers numbered_edges v)
  incident_below v =
      All-filter (λ k. k < E) (λ k. is_incident eqb v (edge_by_number numbered_edges k)) (upto (length numbered_edges)) (rw (length-map es (on_edge (number b))) (upto-below E))

  -- ---- edges by number

  abbrev some_edge : Edge Node
  some_edge = record { node1 = grade_node 0; node2 = grade_node 0; message_length = 0 }

  module _ (k : ℕ) (h : k < length (built_edges b)) where
    abbrev e : Edge Node
    e = get_or es k some_edge

    own : Own e
    own = all_get_d Own es own-edges some_edge k h

    edge-number : edge_number e ≡ k
    edge-number = place_is eq_e sound_e same_e es (edges_nodup b once) some_edge k h

    edge-is : edge_by_number numbered_edges k ≡ on_edge (number b) e
    edge-is = get_d_mapped (on_edge (number b)) es k some_edge no_edge h

    number-below : (v : Node) → Holds eq_node vs v → number b v < N
    unfolding number
    number-below v q = index_lt eq_node eq_node_sound eq_node-same v vs q

    pub ends-below : ((edge_by_number numbered_edges k).node1 < length (built_nodes b)) × ((edge_by_number numbered_edges k).node2 < length (built_nodes b))
    ends-below = (rw edge-is (number-below e.node1 own.1.0), rw edge-is (number-below e.node2 own.1.1))

    position : (v : Node) → Holds eq_node vs v → index_of eq_e e (incident_edges eq_node es v) ≡ index_of eqb k (incident_numbers numbered_edges (number b v))
    position v q =
        sym (index_map eq_e eqb edge_number Own (λ x y o r. index_inj eq_e sound_e same_e x y es o.0 r.0) e (incident_edges eq_node es v) own (All-filter Own (is_incident eq_node v) es own-edges))
        ∙ ap (λ (j : ℕ). index_of eqb j (map edge_number (incident_edges eq_node es v))) edge-number ∙ ap (index_of eqb k) (sym (inc_carried v q))

    -- the five words of edge k
    pub edge-words : edge_words (subgraph_edge eq_node (built_edges b) (built_nodes b) (get_or (built_edges b) k some_edge))
        ≡ (edge_by_number numbered_edges k).node1 ∷ (edge_by_number numbered_edges k).node2
        ∷ index_of eqb k (incident_numbers numbered_edges (edge_by_number numbered_edges k).node1) ∷ index_of eqb k (incident_numbers numbered_edges (edge_by_number numbered_edges k).node2)
        ∷ (edge_by_number numbered_edges k).message_length ∷ []
    unfolding number
    edge-words = rw edge-is (rw (position e.node1 own.1.0, position e.node2 own.1.1))
