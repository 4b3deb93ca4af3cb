-- By numbers, as the code has it: a node is its number (its index in the list of nodes), an edge is its number (its index in the list of edges), and a
-- node's incident list is the rising list of the numbers of the edges that name it. Parts and local graphs come out the same.
use Rattle.std.specs.Prelude.{◌≡◌, refl, Bool, true, false, cond, not, ◌||◌, ℕ, zero, suc, ◌+◌, ◌<◌, length, get_or}
use Rattle.std.proofs.Math.Path.{sym, ap}
use Rattle.std.proofs.Common.{◌∙◌, true≢false, arith}
use Rattle.std.proofs.lemmas.Bool.{false≢true}
use mathlib.Core.List.{List, [], ◌∷◌, ◌++◌, map, map-map, map-append}
use Rattle.std.proofs.lemmas.List.{length-map}
use Rattle.std.proofs.Math.Dec.{eqb, eqb-suc-suc, eqb-suc-zero}
use Rattle.definition.specs.Lists.{cons_if, filter, mem, index_of}
use Rattle.graph_laws.specs.Lists.{All, upto, count_suc, All-append, All-mono, All-every, All-filter, All-at, All-in, mem_self, filter_map, filter_cong}
use Rattle.definition.specs.Components.{Search, walk, walk_start, Subgraph, is_incident, other_end, incident_edges, neighbours, component_from, components_from, components, subgraph, components_of, subgraph_of}
use Rattle.graph_laws.specs.Walk.{mem-map, index_map, walk-within, walk-map}
use Rattle.graph_laws.specs.Ranks.{NoDup, index_inj, get_d_index, get_d_map_index, map_index, mem-upto, mem-none}
use Rattle.definition.specs.FactorGraph.{Edge, Graph, Bale, Node, grade_node, factor_node, input_node, tree_node, eq_node, eq_edge, has_tree, grades_of, marker_numbers, built_nodes, built_edges, built_graph, Kind, kind_of, eq_pair}
use Rattle.graph_laws.specs.Components.{Holds}
use Rattle.graph_laws.specs.Isomorphism.{on_edge, Ends, subgraph_by, is_incident-map, stays, carries, subgraph_by-map}
use Rattle.graph_laws.specs.AloneChecks.{length-upto}
use Rattle.graph_laws.specs.Names.{eq_node_sound, eq_node-same, Valid, built-inside}
use Rattle.graph_laws.specs.Distinct.{nodes_nodup, edges_nodup}
use Rattle.graph_laws.specs.Positions.{eq_edge_sound, eq_edge-same}

-- a graph of numbers, with its edges by number: ends and length of edge k, the rising list of the edges that name n, and its neighbours in that order
abbrev pub no_edge : Edge ℕ
no_edge = record { node1 = 0; node2 = 0; message_length = 0 }

module _ (es : List (Edge ℕ)) where
  abbrev pub edge_by_number : ℕ → Edge ℕ
  edge_by_number k = get_or es k no_edge

  abbrev pub incident_numbers : ℕ → List ℕ
  incident_numbers n = filter (λ k. is_incident eqb n (edge_by_number k)) (upto (length es))

  abbrev pub neighbour_numbers_of : ℕ → List ℕ
  neighbour_numbers_of n = map (λ k. other_end eqb n (edge_by_number k)) (incident_numbers n)

  abbrev pub subgraph_by_number : (ℕ → Kind) → List ℕ → Subgraph
  subgraph_by_number kind p = subgraph_by eqb eqb (λ k. (edge_by_number k).node1) (λ k. (edge_by_number k).node2) (λ k. (edge_by_number k).message_length) incident_numbers kind p

map_get_d : {A : Type 0} (d : A) (l : List A) → map (λ k. get_or l k d) (upto (length l)) ≡ l
map_get_d d [] = refl
map_get_d d (x ∷ xs) = ap (λ l. x ∷ l) (ap (map (λ k. get_or (x ∷ xs) k d)) (count_suc 0 (length xs)) ∙ map-map (λ k. get_or (x ∷ xs) k d) suc (upto (length xs)) ∙ map_get_d d xs)

-- the edges that name n, and its neighbours, from the edges' numbers
pub incident_edges-by-number : (es : List (Edge ℕ)) (n : ℕ) → incident_edges eqb es n ≡ map (edge_by_number es) (incident_numbers es n)
incident_edges-by-number es n =
    ap (λ l. incident_edges eqb l n) (sym (map_get_d no_edge es)) ∙ filter_map (edge_by_number es) (is_incident eqb n) (upto (length es))

pub neighbours-by-number : (es : List (Edge ℕ)) (n : ℕ) → neighbours eqb es n ≡ neighbour_numbers_of es n
neighbours-by-number es n = ap (map (other_end eqb n)) (incident_edges-by-number es n) ∙ map-map (other_end eqb n) (edge_by_number es) (incident_numbers es n)

-- all parts of a graph whose nodes are renamed
module _ {A B : Type 0} (eq_a : A → A → Bool) (eq_b : B → B → Bool) (ρ : A → B) (C : A → Type 0)
    (inj : (a b : A) → C a → C b → eq_b (ρ a) (ρ b) ≡ eq_a a b)
    (G : Graph A) (H : Graph B) (sizes : length H.nodes ≡ length G.nodes)
    (closed : (v : A) → C v → All (Ends C) (incident_edges eq_a G.edges v))
    (carried : (v : A) → C v → incident_edges eq_b H.edges (ρ v) ≡ map (on_edge ρ) (incident_edges eq_a G.edges v)) where
  part-within : (done : List A) (v : A) → C v → All C (component_from eq_a G done v).visited
  part-within done v c =
      (walk-within eq_a done C (neighbours eq_a G.edges) (stays eq_a eq_b ρ C inj G.edges H.edges closed carried) (length G.nodes) (walk_start v) ((c, tt), (c, tt))).0

  part-map : (done : List A) → All C done → (v : A) → C v → (component_from eq_b H (map ρ done) (ρ v)).visited ≡ map ρ (component_from eq_a G done v).visited
  part-map done d v c =
      ap (λ (n : ℕ). (walk eq_b (map ρ done) (neighbours eq_b H.edges) n (walk_start (ρ v))).visited) sizes
      ∙ ap (λ (s : Search B). s.visited)
      (walk-map eq_a eq_b ρ C inj done (map ρ done) (λ a h. mem-map eq_a eq_b ρ C inj a done h d) (neighbours eq_a G.edges) (neighbours eq_b H.edges)
      (stays eq_a eq_b ρ C inj G.edges H.edges closed carried) (carries eq_a eq_b ρ C inj G.edges H.edges closed carried)
      (length G.nodes) (walk_start v) ((c, tt), (c, tt)))

  pub components_from-map : (starts done : List A) → All C starts → All C done → components_from eq_b H (map ρ starts) (map ρ done) ≡ map (map ρ) (components_from eq_a G starts done)
  components_from-map [] done c d = refl
  components_from-map (v ∷ vs) done c d =
      rw (mem-map eq_a eq_b ρ C inj v done c.0 d, part-map done d v c.0) (go (mem eq_a v done) (λ D e. components_from-map vs D c.1 e))
    where
      p : List A
      p = (component_from eq_a G done v).visited

      go : (b : Bool) → ((D : List A) → All C D → components_from eq_b H (map ρ vs) (map ρ D) ≡ map (map ρ) (components_from eq_a G vs D))
          → cons_if (not b) (map ρ p) (components_from eq_b H (map ρ vs) (cond b (map ρ done) (map ρ p ++ map ρ done)))
          ≡ map (map ρ) (cons_if (not b) p (components_from eq_a G vs (cond b done (p ++ done))))
      go true r = r done d
      go false r =
          ap (λ (l : List (List B)). map ρ p ∷ l)
          (ap (components_from eq_b H (map ρ vs)) (sym (map-append ρ p done)) ∙ r (p ++ done) (All-append C p done (part-within done v c.0) d))

-- indexes
module _ {A : Type 0} (eq : A → A → Bool) where
  pub index_front : (a : A) (xs ys : List A) → mem eq a xs ≡ true → index_of eq a (xs ++ ys) ≡ index_of eq a xs
  index_front a [] ys h = absurd (false≢true h)
  index_front a (x ∷ xs) ys h = go (eq a x) h (index_front a xs ys)
    where
      go : (b : Bool) → (b || mem eq a xs) ≡ true → (mem eq a xs ≡ true → index_of eq a (xs ++ ys) ≡ index_of eq a xs)
          → cond b zero (suc (index_of eq a (xs ++ ys))) ≡ cond b zero (suc (index_of eq a xs))
      go true m r = refl
      go false m r = ap suc (r m)

  pub index_back : (a : A) (xs ys : List A) → mem eq a xs ≡ false → index_of eq a (xs ++ ys) ≡ length xs + index_of eq a ys
  index_back a [] ys h = omega arith
  index_back a (x ∷ xs) ys h = go (eq a x) h (index_back a xs ys)
    where
      go : (b : Bool) → (b || mem eq a xs) ≡ false → (mem eq a xs ≡ false → index_of eq a (xs ++ ys) ≡ length xs + index_of eq a ys)
          → cond b zero (suc (index_of eq a (xs ++ ys))) ≡ suc (length xs) + index_of eq a ys
      go true m r = absurd (true≢false m)
      go false m r = omega (arith, r m)

pub index_upto : (n m : ℕ) → m < n → index_of eqb m (upto n) ≡ m
index_upto zero m h = absurd (omega arith)
index_upto (suc n) zero h = refl
index_upto (suc n) (suc m) h =
    rw (eqb-suc-zero m, count_suc 0 n)
    (ap suc (index_map eqb eqb suc (λ k. Unit {0}) (λ a b c d. eqb-suc-suc a b) m (upto n) tt (All-every (λ k. Unit {0}) (λ k. tt) (upto n)) ∙ index_upto n m (omega arith)))

run_index : (k : ℕ → Node) → ((a b : ℕ) → eq_node (k a) (k b) ≡ eqb a b) → (m : ℕ) (xs : List ℕ) → index_of eq_node (k m) (map k xs) ≡ index_of eqb m xs
run_index k h m xs = index_map eqb eq_node k (λ n. Unit {0}) (λ a b c d. h a b) m xs tt (All-every (λ n. Unit {0}) (λ n. tt) xs)

run-mem : (k : ℕ → Node) → ((a b : ℕ) → eq_node (k a) (k b) ≡ eqb a b) → (m : ℕ) (xs : List ℕ) → mem eq_node (k m) (map k xs) ≡ mem eqb m xs
run-mem k h m xs = mem-map eqb eq_node k (λ n. Unit {0}) (λ a b c d. h a b) m xs tt (All-every (λ n. Unit {0}) (λ n. tt) xs)

module _ (b : Bale) where
  -- the number of a node
  unfoldable pub number : Node → ℕ
  number v = index_of eq_node v (built_nodes b)

  abbrev trees : List ℕ
  trees = filter (λ m. has_tree (grades_of b.pairs m)) (marker_numbers b)

  abbrev M : ℕ
  M = length b.markers

  past : (k : ℕ → Node) (v : Node) (xs : List ℕ) (rest : List Node) → ((a : ℕ) → eq_node v (k a) ≡ false) → index_of eq_node v (map k xs ++ rest) ≡ length xs + index_of eq_node v rest
  past k v xs rest h = index_back eq_node v (map k xs) rest (mem-none eq_node v k h xs) ∙ ap (λ (n : ℕ). n + index_of eq_node v rest) (length-map xs k)

  at : (k : ℕ → Node) → ((a c : ℕ) → eq_node (k a) (k c) ≡ eqb a c) → (m : ℕ) (xs : List ℕ) (rest : List Node) → mem eqb m xs ≡ true → index_of eq_node (k m) (map k xs ++ rest) ≡ index_of eqb m xs
  at k h m xs rest i = index_front eq_node (k m) (map k xs) rest (run-mem k h m xs ∙ i) ∙ run_index k h m xs

  pub number-grade : (g : ℕ) → g < b.grades → number (grade_node g) ≡ g
  unfolding number
  number-grade g h = at grade_node (λ x y. refl) g (upto b.grades) (map factor_node (marker_numbers b) ++ (map input_node (marker_numbers b) ++ map tree_node trees)) (mem-upto b.grades g h) ∙ index_upto b.grades g h

  pub number-factor : (m : ℕ) → m < M → number (factor_node m) ≡ b.grades + m
  unfolding number
  number-factor m h =
      past grade_node (factor_node m) (upto b.grades) (map factor_node (marker_numbers b) ++ (map input_node (marker_numbers b) ++ map tree_node trees)) (λ a. refl)
      ∙ omega
      (arith, length-upto b.grades, at factor_node (λ x y. refl) m (marker_numbers b) (map input_node (marker_numbers b) ++ map tree_node trees) (mem-upto M m h), index_upto M m h)

  pub number_input : (m : ℕ) → m < M → number (input_node m) ≡ b.grades + (M + m)
  unfolding number
  number_input m h =
      past grade_node (input_node m) (upto b.grades) (map factor_node (marker_numbers b) ++ (map input_node (marker_numbers b) ++ map tree_node trees)) (λ a. refl)
      ∙ omega
      (arith, length-upto b.grades, length-upto M, past factor_node (input_node m) (marker_numbers b) (map input_node (marker_numbers b) ++ map tree_node trees) (λ a. refl), at input_node (λ x y. refl) m (marker_numbers b) (map tree_node trees) (mem-upto M m h), index_upto M m h)

  -- a tree comes after the inputs, by its place among the markers that have one
  pub number-tree : (m : ℕ) → number (tree_node m) ≡ b.grades + (M + (M + index_of eqb m trees))
  unfolding number
  number-tree m =
      past grade_node (tree_node m) (upto b.grades) (map factor_node (marker_numbers b) ++ (map input_node (marker_numbers b) ++ map tree_node trees)) (λ a. refl)
      ∙ omega
      (arith, length-upto b.grades, length-upto M, past factor_node (tree_node m) (marker_numbers b) (map input_node (marker_numbers b) ++ map tree_node trees) (λ a. refl), past input_node (tree_node m) (marker_numbers b) (map tree_node trees) (λ a. refl), run_index tree_node (λ x y. refl) m trees)

  -- the built graph by numbers
  unfoldable pub numbered : Graph ℕ
  numbered = record { nodes = upto (length (built_nodes b)); edges = map (on_edge number) (built_edges b) }

  pub number_inj : (v w : Node) → Holds eq_node (built_nodes b) v → Holds eq_node (built_nodes b) w → eqb (number v) (number w) ≡ eq_node v w
  unfolding number
  number_inj v w h k = index_inj eq_node eq_node_sound eq_node-same v w (built_nodes b) h k

  module _ (valid : Valid b) where
    inside-at : (v : Node) → Holds eq_node (built_nodes b) v → All (Ends (Holds eq_node (built_nodes b))) (incident_edges eq_node (built_edges b) v)
    inside-at v h = All-filter (Ends (Holds eq_node (built_nodes b))) (is_incident eq_node v) (built_edges b) (built-inside b valid)

    number_carried : (v : Node) → Holds eq_node (built_nodes b) v
        → incident_edges eqb (map (on_edge number) (built_edges b)) (number v) ≡ map (on_edge number) (incident_edges eq_node (built_edges b) v)
    number_carried v h =
        filter_map (on_edge number) (is_incident eqb (number v)) (built_edges b)
        ∙ ap (map (on_edge number))
        (filter_cong (λ e. is_incident eqb (number v) (on_edge number e)) (is_incident eq_node v) (built_edges b)
        (All-mono (Ends (Holds eq_node (built_nodes b))) (λ e. is_incident eqb (number v) (on_edge number e) ≡ is_incident eq_node v e)
        (λ e d. is_incident-map eq_node eqb number (Holds eq_node (built_nodes b)) number_inj v e h d) (built_edges b) (built-inside b valid)))

    -- the parts by numbers are the parts
    pub numbered-components : components eqb numbered ≡ map (map number) (components_of b)
    unfolding numbered components_of built_graph components number
    numbered-components =
        ap (λ (l : List ℕ). components_from eqb numbered l []) (sym (map_index eq_node eq_node_sound eq_node-same (built_nodes b) (nodes_nodup b)))
        ∙ components_from-map eq_node eqb number (Holds eq_node (built_nodes b)) number_inj (built_graph b) numbered (length-upto (length (built_nodes b))) inside-at number_carried (built_nodes b) []
        (mem_self eq_node eq_node-same (built_nodes b)) tt

    module _ (once : NoDup eq_pair b.pairs) where
      -- the number of an edge
      edge_number : Edge Node → ℕ
      edge_number e = index_of (eq_edge eq_node) e (built_edges b)

      Own : Edge Node → Type 0
      Own e = (mem (eq_edge eq_node) e (built_edges b) ≡ true) × Ends (Holds eq_node (built_nodes b)) e

      unfoldable pub kind_by_number : ℕ → Kind
      kind_by_number n = kind_of b (get_or (built_nodes b) n (grade_node 0))

      edge-at : (e : Edge Node) → Own e → edge_by_number (map (on_edge number) (built_edges b)) (edge_number e) ≡ on_edge number e
      unfolding edge_number Own
      edge-at e o =
          get_d_map_index (eq_edge eq_node) (eq_edge_sound eq_node eq_node_sound eq_node-same) (eq_edge-same eq_node eq_node_sound eq_node-same) (on_edge number) no_edge e (built_edges b) o.0

      own-edges : All Own (built_edges b)
      unfolding Own
      own-edges =
          All-in (eq_edge eq_node) (eq_edge-same eq_node eq_node_sound eq_node-same) Own (built_edges b)
          (λ e h. (h, All-at (eq_edge eq_node) (eq_edge_sound eq_node eq_node_sound eq_node-same) (Ends (Holds eq_node (built_nodes b))) (built_edges b) (built-inside b valid) e h))

      inc_carried : (v : Node) → Holds eq_node (built_nodes b) v → incident_numbers (map (on_edge number) (built_edges b)) (number v) ≡ map edge_number (incident_edges eq_node (built_edges b) v)
      unfolding edge_number Own
      inc_carried v h =
          ap (filter (λ k. is_incident eqb (number v) (edge_by_number (map (on_edge number) (built_edges b)) k)))
          (ap upto (length-map (built_edges b) (on_edge number))
          ∙ sym (map_index (eq_edge eq_node) (eq_edge_sound eq_node eq_node_sound eq_node-same) (eq_edge-same eq_node eq_node_sound eq_node-same) (built_edges b) (edges_nodup b once)))
          ∙ filter_map edge_number (λ k. is_incident eqb (number v) (edge_by_number (map (on_edge number) (built_edges b)) k)) (built_edges b)
          ∙ ap (map edge_number)
          (filter_cong (λ e. is_incident eqb (number v) (edge_by_number (map (on_edge number) (built_edges b)) (edge_number e))) (is_incident eq_node v) (built_edges b)
          (All-mono Own (λ e. is_incident eqb (number v) (edge_by_number (map (on_edge number) (built_edges b)) (edge_number e)) ≡ is_incident eq_node v e)
          (λ e o. ap (is_incident eqb (number v)) (edge-at e o) ∙ is_incident-map eq_node eqb number (Holds eq_node (built_nodes b)) number_inj v e h o.1)
          (built_edges b) own-edges))

      -- the local graph by numbers is the local graph
      pub numbered-subgraph : (p : List Node) → All (Holds eq_node (built_nodes b)) p → subgraph_by_number numbered.edges kind_by_number (map number p) ≡ subgraph_of b p
      unfolding numbered subgraph_of subgraph subgraph_by built_graph edge_number Own kind_by_number number
      numbered-subgraph p c =
          subgraph_by-map eq_node eqb number (Holds eq_node (built_nodes b)) number_inj (eq_edge eq_node) eqb edge_number Own
          (λ e f o q. index_inj (eq_edge eq_node) (eq_edge_sound eq_node eq_node_sound eq_node-same) (eq_edge-same eq_node eq_node_sound eq_node-same) e f (built_edges b) o.0 q.0)
          (λ e. e.node1) (λ e. e.node2) (λ e. e.message_length) (λ k. (edge_by_number es k).node1) (λ k. (edge_by_number es k).node2) (λ k. (edge_by_number es k).message_length)
          (λ e o. o.1) (λ e o. ap (λ (x : Edge ℕ). x.node1) (edge-at e o)) (λ e o. ap (λ (x : Edge ℕ). x.node2) (edge-at e o)) (λ e o. ap (λ (x : Edge ℕ). x.message_length) (edge-at e o))
          (incident_edges eq_node (built_edges b)) (incident_numbers es) (λ v h. All-filter Own (is_incident eq_node v) (built_edges b) own-edges) inc_carried
          (kind_of b) kind_by_number (λ v h. ap (kind_of b) (get_d_index eq_node eq_node_sound eq_node-same (grade_node 0) v (built_nodes b) h)) p c
        where
          es : List (Edge ℕ)
          es = map (on_edge number) (built_edges b)
