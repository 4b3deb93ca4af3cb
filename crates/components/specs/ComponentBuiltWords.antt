-- The words of the built graph: they are sound, and give the graph by numbers.
use Rattle.std.specs.Prelude.{◌≡◌, ℕ, suc, ◌+◌, ◌*◌, ◌-◌, ◌≤◌, ◌<◌, eqb, take}
use Rattle.std.proofs.Math.Path.{refl, ap}
use Rattle.std.proofs.Common.{sym, ◌∙◌, subst, arith, take_all}
use mathlib.Core.List.{List, [], ◌∷◌, map, map-map}
use Rattle.std.proofs.Math.ListN.{length, get_or}
use Rattle.std.proofs.lemmas.List.{length-map}
use Rattle.definition.specs.Lists.{range, concat, index_of}
use Rattle.definition.specs.FactorGraph.{Bale, Node, grade_node, Edge, eq_node, built_nodes, built_edges, kind_of, eq_pair}
use Rattle.definition.specs.Components.{SubgraphNode, SubgraphEdge, other_end, neighbours, subgraph_node, subgraph_edge}
use Rattle.graph_laws.specs.Lists.{All, All-mono, map_cong}
use Rattle.graph_laws.specs.Ranks.{NoDup}
use Rattle.graph_laws.specs.Names.{Valid}
use Rattle.graph_laws.specs.Numbers.{edge_by_number, incident_numbers, neighbours-by-number, kind_by_number}
use Rattle.graph_laws.specs.DirectionNumbers.{get_d_mapped}
use Rattle.factor_graph.specs.Words.{kind_code, label, numbered_graph, built_words, graph_words, edge_words}
use Rattle.components.specs.ComponentWalk.{first_of, slot_of, end_of, other_end_of, Sound}
use Rattle.components.specs.ComponentGraph.{row_of, words-length, words-nodes, words-edges, words-kind, words-label, words-first, words_slot, words-end, words_row, row-end, row_last}
use Rattle.components.specs.ComponentBuilt.{all_get_d, numbered_edges, nodes_count, edges_count, row_is, incident_below, ends-below, edge-words, edges_are, node-is}

-- how many nodes, edges and slots the built graph has
abbrev pub node_total : Bale → ℕ
node_total b = length (numbered_graph b).nodes

abbrev pub edge_total : Bale → ℕ
edge_total b = length (numbered_graph b).edges

abbrev pub slot_total : Bale → ℕ
slot_total b = length (concat (map row_of (numbered_graph b).nodes))

module _ (b : Bale) (valid : Valid b) (once : NoDup eq_pair b.pairs) where
  abbrev n : ℕ
  n = node_total b

  abbrev e : ℕ
  e = edge_total b

  abbrev s : ℕ
  s = slot_total b

  abbrev labels : List ℕ
  labels = map label (built_nodes b)

  sized : length labels ≡ length (numbered_graph b).nodes
  sized = length-map (built_nodes b) label ∙ sym (nodes_count b valid once)

  abbrev inc : ℕ → List ℕ
  inc = incident_numbers (numbered_edges b valid once)

  abbrev edge_of : ℕ → Edge ℕ
  edge_of = edge_by_number (numbered_edges b valid once)

  words_are : built_words b ≡ graph_words labels (numbered_graph b)
  unfolding built_words
  words_are = refl

  pub built-length : length (built_words b) ≡ 3 + 3 * node_total b + slot_total b + 5 * edge_total b
  built-length = ap length words_are ∙ words-length labels (numbered_graph b) sized

  pub built-slots : (v : ℕ) → v < node_total b
      → map (slot_of (node_total b) (slot_total b) (built_words b)) (range (first_of (node_total b) (slot_total b) (built_words b) v) (first_of (node_total b) (slot_total b) (built_words b) (v + 1) - first_of (node_total b) (slot_total b) (built_words b) v))
      ≡ incident_numbers (numbered_edges b valid once) v
  built-slots v h =
      ap (λ (w : List ℕ). map (slot_of n s w) (range (first_of n s w v) (first_of n s w (v + 1) - first_of n s w v))) words_are
      ∙ words_row labels (numbered_graph b) sized v h ∙ row_is b valid once v (omega (arith, nodes_count b valid once))

  abbrev some_edge : Edge Node
  some_edge = record { node1 = grade_node 0; node2 = grade_node 0; message_length = 0 }

  end-words : (k j : ℕ) → k < e → j < 5 → end_of n s (built_words b) k j
      ≡ get_or ((edge_of k).node1 ∷ (edge_of k).node2 ∷ index_of eqb k (inc (edge_of k).node1) ∷ index_of eqb k (inc (edge_of k).node2) ∷ (edge_of k).message_length ∷ []) j 0
  end-words k j h q =
      let l : k < length (built_edges b) = omega (arith, edges_count b valid once) in
      let d = subgraph_edge eq_node (built_edges b) (built_nodes b) some_edge in
      ap (λ (w : List ℕ). end_of n s w k j) words_are
      ∙ words-end labels (numbered_graph b) sized d k j h q
      ∙ ap (λ (x : SubgraphEdge). get_or (edge_words x) j 0) (ap (λ (l : List SubgraphEdge). get_or l k d) (edges_are b valid once) ∙ get_d_mapped (subgraph_edge eq_node (built_edges b) (built_nodes b)) (built_edges b) k some_edge d l)
      ∙ ap (λ (l : List ℕ). get_or l j 0) (edge-words b valid once k l)

  pub built_node1 : (k : ℕ) → k < edge_total b → end_of (node_total b) (slot_total b) (built_words b) k 0 ≡ (edge_by_number (numbered_edges b valid once) k).node1
  built_node1 k h = end-words k 0 h (omega arith)

  pub built_node2 : (k : ℕ) → k < edge_total b → end_of (node_total b) (slot_total b) (built_words b) k 1 ≡ (edge_by_number (numbered_edges b valid once) k).node2
  built_node2 k h = end-words k 1 h (omega arith)

  pub built_place2 : (k : ℕ) → k < edge_total b → end_of (node_total b) (slot_total b) (built_words b) k 2 ≡ index_of eqb k (incident_numbers (numbered_edges b valid once) (edge_by_number (numbered_edges b valid once) k).node1)
  built_place2 k h = end-words k 2 h (omega arith)

  pub built_place1 : (k : ℕ) → k < edge_total b → end_of (node_total b) (slot_total b) (built_words b) k 3 ≡ index_of eqb k (incident_numbers (numbered_edges b valid once) (edge_by_number (numbered_edges b valid once) k).node2)
  built_place1 k h = end-words k 3 h (omega arith)

  pub built-size : (k : ℕ) → k < edge_total b → end_of (node_total b) (slot_total b) (built_words b) k 4 ≡ (edge_by_number (numbered_edges b valid once) k).message_length
  built-size k h = end-words k 4 h (omega arith)

  pub built-kind : (v : ℕ) → v < node_total b → get_or (built_words b) (2 + v) 0 ≡ kind_code (kind_by_number b valid once v)
  unfolding kind_by_number
  built-kind v h =
      let l : v < length (built_nodes b) = omega (arith, nodes_count b valid once) in
      let d = subgraph_node eq_node (kind_of b) (built_edges b) (built_edges b) (grade_node 0) in
      ap (λ (w : List ℕ). get_or w (2 + v) 0) words_are
      ∙ words-kind labels (numbered_graph b) sized v h
      ∙ get_d_mapped (λ (x : SubgraphNode). kind_code x.kind) (numbered_graph b).nodes v d 0 h
      ∙ ap (λ (x : SubgraphNode). kind_code x.kind) (node-is b valid once d v l)

  pub built-label : (v : ℕ) → v < node_total b → get_or (built_words b) (2 + node_total b + v) 0 ≡ label (get_or (built_nodes b) v (grade_node 0))
  built-label v h =
      ap (λ (w : List ℕ). get_or w (2 + n + v) 0) words_are
      ∙ words-label labels (numbered_graph b) sized v h ∙ get_d_mapped label (built_nodes b) v (grade_node 0) 0 (omega (arith, nodes_count b valid once))

  pub inc-below : (v : ℕ) → All (λ k. k < e) (inc v)
  inc-below v = subst (λ (m : ℕ). All (λ k. k < m) (inc v)) (sym (edges_count b valid once)) (incident_below b valid once v)

  abbrev rows : List (List ℕ)
  rows = map row_of (numbered_graph b).nodes

  first-is : (v : ℕ) → v ≤ n → first_of n s (built_words b) v ≡ length (concat (take v rows))
  first-is v h = ap (λ (w : List ℕ). first_of n s w v) words_are ∙ words-first labels (numbered_graph b) sized s v h

  rows-below : All (λ r. All (λ k. k < e) r) rows
  rows-below = rows-from (numbered_graph b).nodes rows_each
    where
      rows-from : (xs : List SubgraphNode) → ((i : ℕ) → i < length xs → All (λ k. k < e) (get_or (map row_of xs) i [])) → All (λ r. All (λ k. k < e) r) (map row_of xs)
      rows-from [] h = tt
      rows-from (x ∷ xs) h = (h 0 (omega arith), rows-from xs (λ i q. h (suc i) (omega arith)))

      rows_each : (i : ℕ) → i < n → All (λ k. k < e) (get_or rows i [])
      rows_each i h = subst (λ (l : List ℕ). All (λ k. k < e) l) (sym (row_is b valid once i (omega (arith, nodes_count b valid once)))) (inc-below i)

  all-concat : (rs : List (List ℕ)) → All (λ r. All (λ k. k < e) r) rs → All (λ k. k < e) (concat rs)
  all-concat [] h = tt
  all-concat (r ∷ rs) h = Rattle.graph_laws.specs.Lists.All-append (λ k. k < e) r (concat rs) h.0 (all-concat rs h.1)

  pub built_sound : Sound (node_total b) (edge_total b) (slot_total b) (built_words b)
  built_sound =
      record {
        firsts = λ v h.
            let z : v + 1 ≡ suc v = omega arith in
            let y : first_of n s (built_words b) (v + 1) ≡ length (concat (take (suc v) rows)) = first-is (v + 1) (omega arith) ∙ ap (λ (k : ℕ). length (concat (take k rows))) z in
            omega (arith, first-is v (omega arith), y, row-end rows v (omega (arith, length-map (numbered_graph b).nodes row_of)));
        lasts = λ v h. omega (arith, first-is (v + 1) (omega arith), row_last rows (v + 1) (omega (arith, length-map (numbered_graph b).nodes row_of)));
        slots = λ i h. rw (ap (λ (w : List ℕ). slot_of n s w i) words_are, words_slot labels (numbered_graph b) sized s i h) (all_get_d (λ k. k < e) (concat rows) (all-concat rows rows-below) 0 i h);
        ones = λ k h. rw (built_node1 k h) (omega (arith, nodes_count b valid once, ends-below b valid once k (omega (arith, edges_count b valid once))));
        twos = λ k h. rw (built_node2 k h) (omega (arith, nodes_count b valid once, ends-below b valid once k (omega (arith, edges_count b valid once))));
      }

  -- the neighbours that the walk reads
  pub built-neighbours : (v : ℕ) → v < node_total b
      → map (λ j. other_end_of (node_total b) (slot_total b) (built_words b) v (slot_of (node_total b) (slot_total b) (built_words b) j)) (range (first_of (node_total b) (slot_total b) (built_words b) v) (first_of (node_total b) (slot_total b) (built_words b) (v + 1) - first_of (node_total b) (slot_total b) (built_words b) v))
      ≡ neighbours eqb (numbered_edges b valid once) v
  built-neighbours v h =
      sym (map-map (other_end_of n s (built_words b) v) (slot_of n s (built_words b)) (range (first_of n s (built_words b) v) (first_of n s (built_words b) (v + 1) - first_of n s (built_words b) v)))
      ∙ ap (map (other_end_of n s (built_words b) v)) (built-slots v h)
      ∙ map_cong (other_end_of n s (built_words b) v) (λ k. other_end eqb v (edge_of k)) (inc v)
      (All-mono (λ k. k < e) (λ k. other_end_of n s (built_words b) v k ≡ other_end eqb v (edge_of k)) (λ k q. rw (built_node1 k q, built_node2 k q)) (inc v) (inc-below v))
      ∙ sym (neighbours-by-number (numbered_edges b valid once) v)

  -- the three counts, as they stand in the words
  pub built-counts : (get_or (built_words b) 0 0 ≡ node_total b) × (get_or (built_words b) 1 0 ≡ edge_total b) × (get_or (built_words b) (2 + 3 * node_total b) 0 ≡ slot_total b)
  built-counts =
      let z : 2 + 3 * n ≡ 2 + 2 * n + n = omega arith in (
        ap (λ (w : List ℕ). get_or w 0 0) words_are ∙ words-nodes labels (numbered_graph b) sized,
        ap (λ (w : List ℕ). get_or w 1 0) words_are ∙ words-edges labels (numbered_graph b) sized,
        ap (λ (k : ℕ). get_or (built_words b) k 0) z ∙ first-is n (omega arith) ∙ ap (λ (l : List (List ℕ)). length (concat l)) (take_all n rows (omega (arith, length-map (numbered_graph b).nodes row_of))),
      )
