-- The factors of a part of over 2 nodes: each has two edges, and the first one does not go to its input.
use Rattle.std.specs.Prelude.{◌≡◌, refl, Bool, true, false, cond, List, [], ◌∷◌, ◌++◌, map, ℕ, ◌≤◌, ◌<◌, length, get_or, eqb}
use Rattle.std.proofs.Common.{sym, ap, ◌∙◌, arith, le→leb}
use Rattle.std.proofs.Math.Path.{subst}
use Rattle.std.proofs.lemmas.List.{length-map}
use Rattle.definition.specs.Lists.{mem, index_of}
use Rattle.definition.specs.FactorGraph.{Bale, Node, grade_node, factor_node, input_node, tree_node, eq_node, Edge, eq_edge, built_graph, built_nodes, built_edges, marker_numbers, grades_of, has_tree, marker_edges, is_input, kind_of}
use Rattle.definition.specs.Components.{other_end, incident_edges, subgraph_of}
use Rattle.definition.specs.Directions.{Direction, MessageNode, MessageGraph, message_graph_of, node_at, direction_at}
use Rattle.graph_laws.specs.Bools.{T_true, eqb_sound, eqb_same}
use Rattle.graph_laws.specs.Lists.{All, All-at, All-every, All-in}
use Rattle.graph_laws.specs.Ranks.{NoDup, All-concat-into}
use Rattle.graph_laws.specs.Components.{Both, Holds}
use Rattle.graph_laws.specs.Partition.{part_nodup}
use Rattle.graph_laws.specs.Names.{eq_node_sound, eq_node-same, Valid, built-inside, node-factor}
use Rattle.graph_laws.specs.Locality.{Part, of_nodes}
use Rattle.graph_laws.specs.Positions.{eq_edge-same}
use Rattle.graph_laws.specs.Incident.{to_factor, to_grade, of_grade, of_input, marker_edges-all, factor_list}
use Rattle.graph_laws.specs.Connected.{reached_in, part_of}
use Rattle.graph_laws.specs.Subsets.{no_longer}
use Rattle.graph_laws.specs.Places.{At, at_place}
use Rattle.graph_laws.specs.ByNames.{by_names, In, out, message_node_of, message_node_at, direction_out, other_end_holds, message_graph-by_names}
use Rattle.messages.specs.Layout.{kind_code}
use Rattle.messages.specs.State.{FactorShape}

-- a factor's two edges
record TwoEdges (b : Bale) (m : ℕ) : Type 0 where
  first : Edge Node
  are : incident_edges eq_node (built_edges b) (factor_node m) ≡ first ∷ of_input m ∷ []
  no_input : is_input (kind_of b (other_end eq_node (factor_node m) first)) ≡ false

-- ---- the factor and the input of a marker without grades have no other neighbours

module _ (b : Bale) (m : ℕ) (none : grades_of b.pairs m ≡ []) where
  abbrev two : List Node
  two = factor_node m ∷ input_node m ∷ []

  two-both : All (Both eq_node two) (built_edges b)
  two-both =
      All-concat-into (Both eq_node two) (λ j. marker_edges j (grades_of b.pairs j)) (marker_numbers b)
      (All-every (λ j. All (Both eq_node two) (marker_edges j (grades_of b.pairs j))) (λ j. go j (eqb j m) refl) (marker_numbers b))
    where
      go : (j : ℕ) (c : Bool) → eqb j m ≡ c → All (Both eq_node two) (marker_edges j (grades_of b.pairs j))
      go j true e =
          subst (λ (k : ℕ). All (Both eq_node two) (marker_edges k (grades_of b.pairs k))) (sym (eqb_sound j m e))
          (subst (λ (l : List ℕ). All (Both eq_node two) (marker_edges m l)) (sym none) (rw (eqb_same m) refl, tt))
      go j false e =
          marker_edges-all (Both eq_node two) j (grades_of b.pairs j)
          (λ t. (rw e, All-every (λ g. Both eq_node two (to_grade j g)) (λ g. refl) (grades_of b.pairs j)))
          (λ t. All-every (λ g. Both eq_node two (of_grade j g)) (λ g. rw e) (grades_of b.pairs j)) (rw e)

module _ (b : Bale) (ok : Valid b) (p : List Node) (is : Part b ok p) where
  pub part-both : All (Both eq_node p) (built_edges b)
  unfolding built_graph
  part-both = is.both

  pub part_once : NoDup eq_node p
  unfolding built_graph
  part_once = subst (NoDup eq_node) is.is (part_nodup eq_node eq_node_sound eq_node-same (built_graph b) (built-inside b ok) is.done is.root)

  two-nodes : (m : ℕ) → grades_of b.pairs m ≡ [] → Holds eq_node p (factor_node m) → length p ≤ 2
  unfolding built_graph
  two-nodes m e h =
      no_longer eq_node eq_node_sound eq_node-same p (two b m e) part_once
      (All-in eq_node eq_node-same (Holds eq_node (two b m e)) p
      (λ w k. reached_in eq_node eq_node_sound eq_node-same (two b m e) (built_edges b) (two-both b m e) ((part_of eq_node eq_node_sound eq_node-same (built_graph b) p is (factor_node m) w h).0 k) (rw (eqb_same m) refl)))

  two_edges : (m : ℕ) → mem eqb m (marker_numbers b) ≡ true → Holds eq_node p (factor_node m) → 2 < length p → TwoEdges b m
  two_edges m i h l = go (grades_of b.pairs m) refl
    where
      list : List ℕ → List (Edge Node)
      list gs = cond (has_tree gs) (to_factor m (length gs) ∷ of_input m ∷ []) (map (λ g. of_grade m g) gs ++ of_input m ∷ [])

      go : (gs : List ℕ) → grades_of b.pairs m ≡ gs → TwoEdges b m
      go [] e = absurd (let z : ⊥ = omega (arith, two-nodes m e h) in z)
      go (g ∷ []) e = record { first = of_grade m g; are = factor_list b m i ∙ ap list e; no_input = refl }
      go (g ∷ k ∷ gs) e =
          let hs : List ℕ = g ∷ k ∷ gs in
          record {
            first = to_factor m (length hs);
            are = factor_list b m i ∙ ap list e ∙ ap (λ (c : Bool). cond c (to_factor m (length hs) ∷ of_input m ∷ []) (map (λ g. of_grade m g) hs ++ of_input m ∷ [])) (T_true (has_tree hs) (le→leb 2 (length hs) (omega arith)));
            no_input = refl;
          }

  -- ---- in the part's message graph
  abbrev pub graph_by_names : MessageGraph
  graph_by_names = by_names eq_node eq_node_sound eq_node-same (built_edges b) p part-both part_once (kind_of b)

  pub by_name : message_graph_of b p ≡ graph_by_names
  unfolding message_graph_of subgraph_of built_graph
  by_name = message_graph-by_names eq_node eq_node_sound eq_node-same (built_edges b) p part-both part_once (kind_of b)

  -- the node at the place of v
  pub node-is : (v : Node) → Holds eq_node p v → node_at graph_by_names (index_of eq_node v p) ≡ message_node_of eq_node eq_node_sound eq_node-same (built_edges b) p part-both part_once (kind_of b) v
  node-is = message_node_at eq_node eq_node_sound eq_node-same (built_edges b) p part-both part_once (kind_of b)

  factor_named : (m : ℕ) → Holds eq_node p (factor_node m) → TwoEdges b m → FactorShape graph_by_names (index_of eq_node (factor_node m) p)
  factor_named m h r =
      let v = factor_node m in
      let u = other_end eq_node v r.first in
      let sends : Edge Node → ℕ = out eq_node eq_node_sound eq_node-same (built_edges b) p part-both part_once (kind_of b) v in
      let outs : (node_at graph_by_names (index_of eq_node v p)).outgoing ≡ sends r.first ∷ sends (of_input m) ∷ [] = ap (λ (x : MessageNode). x.outgoing) (node-is v h) ∙ ap (map sends) r.are in
      let i : In eq_node eq_node_sound eq_node-same (built_edges b) p part-both part_once (kind_of b) v r.first =
      ap (mem (eq_edge eq_node) r.first) r.are ∙ rw (eq_edge-same eq_node eq_node_sound eq_node-same r.first) refl
      in
      record {
        code = ap (λ (x : MessageNode). kind_code x.kind) (node-is v h);
        two = ap length outs;
        receiver =
            ap (λ (l : List ℕ). is_input (node_at graph_by_names (direction_at graph_by_names (get_or l 0 0)).end).kind) outs
            ∙ ap (λ (x : Direction). is_input (node_at graph_by_names x.end).kind) (direction_out eq_node eq_node_sound eq_node-same (built_edges b) p part-both part_once (kind_of b) v r.first h i)
            ∙ ap (λ (x : MessageNode). is_input x.kind) (node-is u (other_end_holds eq_node eq_node_sound eq_node-same (built_edges b) p part-both part_once (kind_of b) v r.first h i))
            ∙ r.no_input;
      }

  -- what is at a number is some node of the part
  pub node_at_lem : (n : ℕ) → n < length graph_by_names.nodes → At eq_node p n
  node_at_lem n h = at_place eq_node eq_node_sound eq_node-same p n part_once (omega (arith, length-map p (message_node_of eq_node eq_node_sound eq_node-same (built_edges b) p part-both part_once (kind_of b))))

  pub part-known : (v : Node) → Holds eq_node p v → Holds eq_node (built_nodes b) v
  part-known v h = All-at eq_node eq_node_sound (Holds eq_node (built_nodes b)) p (of_nodes b ok p is) v h

  named_factors : 2 < length p → (n : ℕ) → n < length graph_by_names.nodes → kind_code (node_at graph_by_names n).kind ≡ 1 → FactorShape graph_by_names n
  named_factors l n h c = go (node_at_lem n h).thing (node_at_lem n h).held (node_at_lem n h).position
    where
      codes : (v : Node) → Holds eq_node p v → index_of eq_node v p ≡ n → kind_code (kind_of b v) ≡ 1
      codes v k e = sym (ap (λ (x : MessageNode). kind_code x.kind) (node-is v k)) ∙ ap (λ (i : ℕ). kind_code (node_at graph_by_names i).kind) e ∙ c

      go : (v : Node) → Holds eq_node p v → index_of eq_node v p ≡ n → FactorShape graph_by_names n
      go (grade_node g) k e = absurd (let z : ⊥ = omega (arith, codes (grade_node g) k e) in z)
      go (factor_node m) k e = subst (FactorShape graph_by_names) e (factor_named m k (two_edges m (sym (node-factor b m) ∙ part-known (factor_node m) k) k l))
      go (input_node m) k e = absurd (let z : ⊥ = omega (arith, codes (input_node m) k e) in z)
      go (tree_node m) k e = absurd (let z : ⊥ = omega (arith, codes (tree_node m) k e) in z)

  -- each factor of a part of over 2 nodes
  pub part_factors : 2 < length p → (n : ℕ) → n < length (message_graph_of b p).nodes → kind_code (node_at (message_graph_of b p) n).kind ≡ 1 → FactorShape (message_graph_of b p) n
  part_factors l = subst (λ (t : MessageGraph). (n : ℕ) → n < length t.nodes → kind_code (node_at t n).kind ≡ 1 → FactorShape t n) (sym by_name) (named_factors l)
