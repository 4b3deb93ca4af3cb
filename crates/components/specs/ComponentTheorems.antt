-- All components on the lent words are those of the definition.
use Rattle.std.specs.Prelude.{◌≡◌, Bool, cond, not, get_or}
use Rattle.std.proofs.Math.Path.{refl, sym, ap, subst}
use Rattle.std.proofs.Common.{◌∙◌, add-zero, add-one, arith, length-append}
use Rattle.std.proofs.Math.Bool.{true, false}
use mathlib.Core.List.{List, [], ◌∷◌, ◌++◌, map, map-map}
use Prim.Native.Nat.{ℕ, zero, suc, ◌+◌, ◌≤◌, ◌<◌}
use Rattle.std.proofs.Math.Dec.{eqb}
use Rattle.std.proofs.Math.ListN.{length}
use Rattle.std.proofs.lemmas.List.{length-map}
use Rattle.definition.specs.Lists.{range, concat, cons_if, mem}
use Rattle.definition.specs.FactorGraph.{Bale, Node, grade_node, Edge, Graph, eq_node, built_nodes, built_edges, eq_pair}
use Rattle.definition.specs.Components.{Search, walk, walk_start, neighbours, component_from, components_from, components, components_of}
use Rattle.graph_laws.specs.Bools.{eqb_sound, eqb_same}
use Rattle.graph_laws.specs.Lists.{All, All-mono, map_cong, upto}
use Rattle.graph_laws.specs.Ranks.{NoDup, mem-upto, get_d_index}
use Rattle.graph_laws.specs.Locality.{Part, of_nodes, all-components}
use Rattle.graph_laws.specs.Components.{Both, Holds, IsComponent, components_are, part-ends}
use Rattle.graph_laws.specs.AloneChecks.{length-upto}
use Rattle.graph_laws.specs.Names.{Valid, eq_node_sound, eq_node-same}
use Rattle.graph_laws.specs.Numbers.{number, numbered, no_edge, edge_by_number, subgraph_by_number, kind_by_number, numbered-components, numbered-subgraph}
use Rattle.list_laws.specs.Put.{put, length-put, put_next, put-none}
use Rattle.factor_graph.specs.Words.{label, graph_words, component_words, components_words}
use Rattle.components.specs.ComponentMemory.{Memory}
use Rattle.components.specs.ComponentRecorded.{AfterRecord}
use Rattle.components.specs.ComponentStep.{component_at}
use Rattle.components.specs.ComponentAll.{AllSoFar, all_from}
use Rattle.components.specs.ComponentBuilt.{numbered_edges, ends-below, nodes_count}
use Rattle.components.specs.ComponentBuiltWords.{node_total, slot_total}
use Rattle.components.specs.ComponentByNumber.{words_by_number, Between, step_is, step_held}

all_of : {A : Type 0} (P : A → Type 0) (xs : List A) (d : A) → ((i : ℕ) → i < length xs → P (get_or xs i d)) → All P xs
all_of P [] d h = tt
all_of P (x ∷ xs) d h = (h 0 (omega arith), all_of P xs d (λ i q. h (suc i) (omega arith)))

module _ (b : Bale) (valid : Valid b) (once : NoDup eq_pair b.pairs) where
  abbrev n : ℕ
  n = node_total b

  abbrev s : ℕ
  s = slot_total b

  abbrev es : List (Edge ℕ)
  es = numbered_edges b valid once

  -- the graph by numbers
  abbrev G : Graph ℕ
  G = record { nodes = upto (length (built_nodes b)); edges = numbered_edges b valid once }

  inside : All (λ (e : Edge ℕ). Holds eqb G.nodes e.node1 × Holds eqb G.nodes e.node2) G.edges
  inside =
      all_of (λ (e : Edge ℕ). Holds eqb G.nodes e.node1 × Holds eqb G.nodes e.node2) es no_edge
      (λ k h.
      let r = ends-below b valid once k (subst (λ (z : ℕ). k < z) (length-map (built_edges b) _) h) in
      (mem-upto (length (built_nodes b)) (edge_by_number es k).node1 r.0, mem-upto (length (built_nodes b)) (edge_by_number es k).node2 r.1))

  fuel : length G.nodes ≡ n
  fuel = length-upto (length (built_nodes b)) ∙ sym (nodes_count b valid once)

  abbrev W : List ℕ → List ℕ
  W = words_by_number b valid once

  abbrev nb : ℕ → List ℕ
  nb = neighbours eqb (numbered_edges b valid once)

  component_is : (done : List ℕ) (v : ℕ) → component_from eqb G done v ≡ walk eqb done nb n (walk_start v)
  component_is done v = ap (λ (k : ℕ). walk eqb done nb k (walk_start v)) fuel

  -- what is left after the nodes from i on
  pub record Left (m : Memory) (at c : ℕ) (ps : List (List ℕ)) (x : AllSoFar) : Type 0 where
    pub graph : x.memory.graph ≡ m.graph
    pub out : x.memory.out ≡ put m.out at (concat (map (words_by_number b valid once) ps))
    pub count : x.count ≡ c + length ps
    pub end : x.end ≡ at + length (concat (map (words_by_number b valid once) ps))

  -- one component more
  module _ (at : ℕ) (m : Memory) (done : List ℕ) (held : Between b valid once done m) (i : ℕ) (below : i < n) (new : mem eqb i done ≡ false) where
    abbrev met : Search ℕ
    met = walk eqb done nb n (walk_start i)

    abbrev p : List ℕ
    p = met.visited

    over : met.stack ≡ []
    over =
        subst (λ (x : Search ℕ). x.stack ≡ []) (component_is done i)
        (part-ends eqb eqb_sound eqb_same G inside done i (mem-upto (length (built_nodes b)) i (omega (arith, nodes_count b valid once))))

    one_more_lem : (k c : ℕ) (ps : List (List ℕ)) → All (Both eqb p) es → at + length (concat (map W (p ∷ ps))) ≤ length m.out
        → ((c₁ at₁ : ℕ) (m₁ : Memory) → Between b valid once (p ++ done) m₁ → at₁ + length (concat (map W ps)) ≤ length m₁.out → Left m₁ at₁ c₁ ps (all_from n s k (i + 1) c₁ at₁ m₁))
        → Left m at c (p ∷ ps) (all_from n s k (i + 1) (c + 1) (component_at n s at i m).end (component_at n s at i m).memory)
    one_more_lem k c ps both room f =
        let R = concat (map W ps) in
        let z = length-append (W p) R in
        let eq = step_is b valid once at done m held i below new both over (omega (arith, room)) in
        let held₁ = step_held b valid once at done m held i below new both over (omega (arith, room)) in
        let y = length-put m.out at (W p) (omega (arith, room)) in
        let l = f (c + 1) (at + length (W p)) _ held₁ (omega (arith, room, y)) in
        let x = ap (λ (u : AfterRecord). all_from n s k (i + 1) (c + 1) u.end u.memory) eq in
        subst (Left m at c (p ∷ ps)) (sym x)
        (record {
          graph = l.graph;
          out = l.out ∙ put_next 0 m.out at (W p) R (omega (arith, room));
          count = l.count ∙ omega arith;
          end = l.end ∙ omega (arith, z);
        })

  all_left : (k i c at : ℕ) (m : Memory) (done : List ℕ) → i + k ≡ n → Between b valid once done m → All (IsComponent eqb G) (components_from eqb G (range i k) done)
      → at + length (concat (map W (components_from eqb G (range i k) done))) ≤ length m.out → Left m at c (components_from eqb G (range i k) done) (all_from n s k i c at m)
  unfolding all_from
  all_left zero i c at m done h held are room = record { graph = refl; out = put-none m.out at (omega arith); count = sym (add-zero c); end = sym (add-zero at) }
  all_left (suc k) i c at m done h held are room =
      subst (λ (z : Bool). Left m at c (components_from eqb G (range i (suc k)) done) (cond z (all_from n s k (i + 1) (c + 1) (component_at n s at i m).end (component_at n s at i m).memory) (all_from n s k (i + 1) c at m))) (sym (held.marks i (omega arith)))
      (go (mem eqb i done) refl are room (λ c₁ at₁ m₁ done₁ held₁. subst (λ (j : ℕ). All (IsComponent eqb G) (components_from eqb G (range j k) done₁) → at₁ + length (concat (map W (components_from eqb G (range j k) done₁))) ≤ length m₁.out → Left m₁ at₁ c₁ (components_from eqb G (range j k) done₁) (all_from n s k (i + 1) c₁ at₁ m₁)) (add-one i) (all_left k (i + 1) c₁ at₁ m₁ done₁ (omega arith) held₁)))
    where
      go : (z : Bool) → mem eqb i done ≡ z
          → All (IsComponent eqb G) (cons_if (not z) (component_from eqb G done i).visited (components_from eqb G (range (suc i) k) (cond z done ((component_from eqb G done i).visited ++ done))))
          → at + length (concat (map W (cons_if (not z) (component_from eqb G done i).visited (components_from eqb G (range (suc i) k) (cond z done ((component_from eqb G done i).visited ++ done)))))) ≤ length m.out
          → ((c₁ at₁ : ℕ) (m₁ : Memory) (done₁ : List ℕ) → Between b valid once done₁ m₁ → All (IsComponent eqb G) (components_from eqb G (range (suc i) k) done₁)
          → at₁ + length (concat (map W (components_from eqb G (range (suc i) k) done₁))) ≤ length m₁.out → Left m₁ at₁ c₁ (components_from eqb G (range (suc i) k) done₁) (all_from n s k (i + 1) c₁ at₁ m₁))
          → Left m at c (cons_if (not z) (component_from eqb G done i).visited (components_from eqb G (range (suc i) k) (cond z done ((component_from eqb G done i).visited ++ done))))
          (cond (not z) (all_from n s k (i + 1) (c + 1) (component_at n s at i m).end (component_at n s at i m).memory) (all_from n s k (i + 1) c at m))
      go true q a r f = f c at m done held a r
      go false q a r f =
          let X = all_from n s k (i + 1) (c + 1) (component_at n s at i m).end (component_at n s at i m).memory in
          let e = ap (λ (x : Search ℕ). x.visited) (component_is done i) in
          let P = (walk eqb done nb n (walk_start i)).visited in
          let a₁ : All (IsComponent eqb G) (P ∷ components_from eqb G (range (suc i) k) (P ++ done)) = subst (λ (l : List ℕ). All (IsComponent eqb G) (l ∷ components_from eqb G (range (suc i) k) (l ++ done))) e a in
          let r₁ : at + length (concat (map W (P ∷ components_from eqb G (range (suc i) k) (P ++ done)))) ≤ length m.out = subst (λ (l : List ℕ). at + length (concat (map W (l ∷ components_from eqb G (range (suc i) k) (l ++ done)))) ≤ length m.out) e r in
          subst (λ (l : List ℕ). Left m at c (l ∷ components_from eqb G (range (suc i) k) (l ++ done)) X) (sym e)
          (one_more_lem at m done held i (omega arith) q k c (components_from eqb G (range (suc i) k) (P ++ done)) a₁.0.both r₁ (λ c₁ at₁ m₁ h₁ r₂. f c₁ at₁ m₁ (P ++ done) h₁ a₁.1 r₂))

  -- the components by number are the components, and so are their records
  parts_are : components_from eqb G (range 0 n) [] ≡ map (map (number b)) (components_of b)
  unfolding numbered components
  parts_are = ap (λ (k : ℕ). components_from eqb G (range 0 k) []) (nodes_count b valid once) ∙ numbered-components b valid

  label_is : (u : Node) → Holds eq_node (built_nodes b) u → label (get_or (built_nodes b) (number b u) (grade_node 0)) ≡ label u
  unfolding number
  label_is u h = ap label (get_d_index eq_node eq_node_sound eq_node-same (grade_node 0) u (built_nodes b) h)

  words_of : (q : List Node) → Part b valid q → W (map (number b) q) ≡ component_words b q
  unfolding words_by_number component_words numbered
  words_of q is =
      ap (λ (l : List ℕ). graph_words l (subgraph_by_number (numbered_edges b valid once) (kind_by_number b valid once) (map (number b) q)))
      (map-map (λ v. label (get_or (built_nodes b) v (grade_node 0))) (number b) q
      ∙ map_cong (λ u. label (get_or (built_nodes b) (number b u) (grade_node 0))) label q (All-mono (Holds eq_node (built_nodes b)) (λ u. label (get_or (built_nodes b) (number b u) (grade_node 0)) ≡ label u) label_is q (of_nodes b valid q is)))
      ∙ ap (graph_words (map label q)) (numbered-subgraph b valid once q (of_nodes b valid q is))

  pub parts-words : concat (map (words_by_number b valid once) (components_from eqb G (range 0 n) [])) ≡ components_words b
  unfolding components_words
  parts-words =
      ap (λ (l : List (List ℕ)). concat (map W l)) parts_are
      ∙ ap concat (map-map W (map (number b)) (components_of b)
      ∙ map_cong (λ q. W (map (number b) q)) (component_words b) (components_of b) (All-mono (Part b valid) (λ q. W (map (number b) q) ≡ component_words b q) words_of (components_of b) (all-components b valid)))

  pub parts_count : length (components_from eqb G (range 0 n) []) ≡ length (components_of b)
  parts_count = ap length parts_are ∙ length-map (components_of b) (map (number b))

  -- all components: from words that hold the built graph, with no node numbered
  pub record Found (m : Memory) (x : AllSoFar) : Type 0 where
    pub graph : x.memory.graph ≡ m.graph
    pub out : x.memory.out ≡ put m.out 0 (components_words b)
    pub count : x.count ≡ length (components_of b)
    pub end : x.end ≡ length (components_words b)

  are_all : All (IsComponent eqb G) (components_from eqb G (range 0 n) [])
  unfolding components
  are_all =
      subst (λ (k : ℕ). All (IsComponent eqb G) (components_from eqb G (range 0 k) [])) (sym (nodes_count b valid once))
      (components_are eqb eqb_sound eqb_same G inside)

  pub all_found : (m : Memory) → Between b valid once [] m → length (components_words b) ≤ length m.out → Found m (all_from (node_total b) (slot_total b) (node_total b) 0 0 0 m)
  all_found m held room =
      let l = all_left n 0 0 0 m [] (omega arith) held are_all (omega (arith, room, ap length parts-words)) in
      record {
        graph = l.graph;
        out = l.out ∙ ap (put m.out 0) parts-words;
        count = l.count ∙ omega (arith, parts_count);
        end = l.end ∙ omega (arith, ap length parts-words);
      }
