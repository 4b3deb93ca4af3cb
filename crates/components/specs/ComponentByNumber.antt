-- One component: what the code leaves is the record of the definition's component, by numbers.
use Rattle.std.specs.Prelude.{◌≡◌, Bool, true, false, cond, not, ◌||◌, ◌&&◌, ℕ, ◌+◌, ◌*◌, ◌-◌, ◌≤◌, ◌<◌, eqb, get_or}
use Rattle.std.proofs.Math.Path.{refl, sym, ap}
use Rattle.std.proofs.Common.{◌∙◌, subst, true≢false, arith}
use mathlib.Core.List.{List, [], ◌∷◌, ◌++◌, map, map-map}
use Rattle.std.proofs.Math.ListN.{length, length-map}
use Rattle.std.proofs.Math.Seq.{sets}
use Rattle.definition.specs.Lists.{range, concat, mem, index_of}
use Rattle.definition.specs.FactorGraph.{Bale, grade_node, Edge, built_nodes, Kind, eq_pair}
use Rattle.definition.specs.Components.{SubgraphNode, SubgraphEdge, Search, walk, walk_start, neighbours, add_if_new, add_all_new}
use Rattle.graph_laws.specs.Bools.{eqb_sound, eqb_same, or_no}
use Rattle.graph_laws.specs.Lists.{All, All-mono, All-append, All-at, All-in, All-both, map_cong, All-map-from}
use Rattle.graph_laws.specs.Walk.{walk-within}
use Rattle.graph_laws.specs.Reach.{mem_append, walk_once}
use Rattle.graph_laws.specs.Ranks.{NoDup, All-concat-into, map-concat}
use Rattle.graph_laws.specs.Partition.{walk_nodup}
use Rattle.graph_laws.specs.Components.{Both, ends_of_both}
use Rattle.graph_laws.specs.Names.{Valid}
use Rattle.graph_laws.specs.Isomorphism.{subgraph_by}
use Rattle.graph_laws.specs.Numbers.{edge_by_number, incident_numbers, incident_edges-by-number, neighbours-by-number, subgraph_by_number, kind_by_number}
use Rattle.list_laws.specs.Put.{put}
use Rattle.list_laws.specs.PutMore.{put-sets}
use Rattle.factor_graph.specs.Words.{kind_code, label, built_words, graph_words, edge_words, first_slots}
use Rattle.components.specs.ComponentMemory.{Memory}
use Rattle.components.specs.ComponentWalk.{Walk, walk_of, end_of, visit_node, Walking, visit-kept, visit-below}
use Rattle.components.specs.ComponentRecorded.{recorded_of, recorded}
use Rattle.components.specs.ComponentStep.{zeros-le, walked_from, component_at}
use Rattle.components.specs.ComponentSearch.{stack_all, number_all, number-length, number_free, Marks, lay, walked_from-lay}
use Rattle.components.specs.ComponentSlots.{firsts_from}
use Rattle.components.specs.ComponentFirstSight.{number_at, number_other, five_words}
use Rattle.components.specs.ComponentPut.{record_words, recorded-put}
use Rattle.components.specs.ComponentGraph.{row_of, words-length}
use Rattle.components.specs.ComponentBuilt.{all_get_d, numbered_edges, ends-below, nodes_count, edges_count}
use Rattle.components.specs.ComponentBuiltWords.{node_total, edge_total, slot_total, inc-below, built_sound, built-slots, built-neighbours, built_node1, built_node2, built_place1, built_place2, built-size, built-kind, built-label}

seen-within : (P : ℕ → Type 0) (acc xs : List ℕ) → All P acc → All P xs → All P (add_all_new eqb acc xs)
seen-within P acc [] a h = a
seen-within P acc (x ∷ xs) a h = seen-within P (add_if_new eqb acc x) xs (go (mem eqb x acc)) h.1
  where
    go : (c : Bool) → All P (cond c acc (acc ++ x ∷ []))
    go true = a
    go false = All-append P acc (x ∷ []) a (h.0, tt)

firsts_are : (kind : ℕ → Kind) (inc : ℕ → List ℕ) (idx : ℕ → ℕ) (f : ℕ) (p : List ℕ)
    → firsts_from inc f p ≡ first_slots f (map (λ (v : ℕ). record { kind = kind v; edges = map idx (inc v) }) p)
firsts_are kind inc idx f [] = refl
firsts_are kind inc idx f (v ∷ p) =
    ap (λ (l : List ℕ). f ∷ l) (ap (λ (k : ℕ). firsts_from inc (f + k) p) (sym (length-map (inc v) idx)) ∙ firsts_are kind inc idx (f + length (map idx (inc v))) p)

module _ (b : Bale) (valid : Valid b) (once : NoDup eq_pair b.pairs) where
  abbrev n : ℕ
  n = node_total b

  abbrev e : ℕ
  e = edge_total b

  abbrev s : ℕ
  s = slot_total b

  abbrev es : List (Edge ℕ)
  es = numbered_edges b valid once

  abbrev inc : ℕ → List ℕ
  inc = incident_numbers (numbered_edges b valid once)

  abbrev edge_of : ℕ → Edge ℕ
  edge_of = edge_by_number (numbered_edges b valid once)

  abbrev nb : ℕ → List ℕ
  nb = neighbours eqb (numbered_edges b valid once)

  abbrev kind : ℕ → Kind
  kind = kind_by_number b valid once

  -- the record of a component, by numbers
  unfoldable pub words_by_number : List ℕ → List ℕ
  words_by_number p = graph_words (map (λ v. label (get_or (built_nodes b) v (grade_node 0))) p) (subgraph_by_number (numbered_edges b valid once) (kind_by_number b valid once) p)

  -- the words between two components: `done` are the nodes that have a number
  pub record Between (done : List ℕ) (m : Memory) : Type 0 where
    pub graph : m.graph ≡ built_words b
    pub numbers : length m.node_numbers ≡ node_total b
    pub edges : length m.edge_numbers ≡ edge_total b
    pub stack : length m.stack ≡ node_total b
    pub empty : (j : ℕ) → get_or m.stack j 0 ≡ 0
    pub marks : Marks (node_total b) m.node_numbers done
    pub free : (k : ℕ) → k < edge_total b → mem eqb (edge_by_number (numbered_edges b valid once) k).node1 done ≡ false → eqb (get_or m.edge_numbers k 0) 0 ≡ true

  neighbours-below : (v : ℕ) → v < n → All (λ u. u < n) (nb v)
  neighbours-below v h =
      subst (λ (l : List ℕ). All (λ u. u < n) l) (sym (neighbours-by-number es v)) (into (inc v) (inc-below b valid once v))
    where
      one : (k : ℕ) (c : Bool) → k < e → cond c (edge_of k).node2 (edge_of k).node1 < n
      one k true q = omega (arith, nodes_count b valid once, ends-below b valid once k (omega (arith, edges_count b valid once)))
      one k false q = omega (arith, nodes_count b valid once, ends-below b valid once k (omega (arith, edges_count b valid once)))

      into : (ks : List ℕ) → All (λ k. k < e) ks → All (λ u. u < n) (map (λ k. cond (eqb v (edge_of k).node1) (edge_of k).node2 (edge_of k).node1) ks)
      into [] a = tt
      into (k ∷ ks) a = (one k (eqb v (edge_of k).node1) a.0, into ks a.1)

  module _ (at : ℕ) (done : List ℕ) (m : Memory) (held : Between done m) (v : ℕ) (below : v < n) (new : mem eqb v done ≡ false) where
    pub first_walks : Walking n e s at (visit_node at v (walk_of m 0 0))
    first_walks =
        let k = visit-kept n at v (walk_of m 0 0) (omega (arith, held.numbers)) in
        let z = zeros-le m.node_numbers in
        record {
          sound = rw (k.graph, held.graph) (built_sound b valid once);
          numbers = k.numbers ∙ held.numbers;
          stack = k.stack ∙ held.stack;
          counts = omega (arith, k.counts, z, held.numbers);
          tops = omega (arith, k.tops, z, held.numbers);
          below = visit-below n at v (walk_of m 0 0) below (omega (arith, held.numbers)) (omega (arith, z, held.numbers, held.stack)) (λ j h. absurd (let y : ⊥ = omega arith in y));
        }

    abbrev met : Search ℕ
    met = walk eqb done nb n (walk_start v)

    abbrev p : List ℕ
    p = met.visited

    pub walked-is : walked_from n s at v m ≡ lay at m (walk eqb done (neighbours eqb (numbered_edges b valid once)) (node_total b) (walk_start v))
    walked-is =
        walked_from-lay n e s at m held.numbers done held.marks (rw held.graph (built_sound b valid once)) nb
        (λ u h. rw held.graph (built-neighbours b valid once u h)) held.empty held.stack v below new first_walks

    p-below : All (λ u. u < n) p
    p-below = (walk-within eqb done (λ u. u < n) nb neighbours-below n (walk_start v) ((below, tt), (below, tt))).0

    p_nodup : NoDup eqb p
    p_nodup = walk_nodup eqb eqb_sound eqb_same done nb n (walk_start v) (refl, tt)

    p_apart : All (λ u. mem eqb u done ≡ false) p
    p_apart = walk_once eqb eqb_sound eqb_same done nb n (walk_start v) (new, tt)

    abbrev ks : List ℕ
    ks = concat (map inc p)

    abbrev ls : List ℕ
    ls = add_all_new eqb [] ks

    module _ (both : All (Both eqb p) es) where
      -- an edge at a node of the component
      abbrev Known : ℕ → Type 0
      Known k = (k < e) × ((mem eqb (edge_of k).node1 p ≡ true) × (mem eqb (edge_of k).node2 p ≡ true))

      inc_known : (u : ℕ) → mem eqb u p ≡ true → All Known (inc u)
      inc_known u h =
          All-both (λ k. k < e) (λ k. (mem eqb (edge_of k).node1 p ≡ true) × (mem eqb (edge_of k).node2 p ≡ true)) (inc u) (inc-below b valid once u)
          (All-map-from (λ (f : Edge ℕ). (mem eqb f.node1 p ≡ true) × (mem eqb f.node2 p ≡ true)) edge_of (inc u)
          (subst (λ (l : List (Edge ℕ)). All (λ (f : Edge ℕ). (mem eqb f.node1 p ≡ true) × (mem eqb f.node2 p ≡ true)) l) (incident_edges-by-number es u) (ends_of_both eqb eqb_sound eqb_same p es both u h)))

      ks-known : All Known ks
      ks-known = All-concat-into Known inc p (All-in eqb eqb_same (λ u. All Known (inc u)) p inc_known)

      ls-known : All Known ls
      ls-known = seen-within Known [] ks tt ks-known

      ks_free : All (λ k. eqb (get_or m.edge_numbers k 0) 0 ≡ true) ks
      ks_free =
          All-mono Known (λ k. eqb (get_or m.edge_numbers k 0) 0 ≡ true)
          (λ k q. held.free k q.0 (All-at eqb eqb_sound (λ u. mem eqb u done ≡ false) p p_apart (edge_of k).node1 q.1.0)) ks ks-known

      abbrev numbered : List ℕ
      numbered = number_all 0 m.node_numbers p

      abbrev m' : Memory
      m' = record { graph = m.graph; node_numbers = numbered; edge_numbers = m.edge_numbers; stack = m.stack; out = m.out }

      abbrev idx : ℕ → ℕ
      idx k = index_of eqb k ls

      abbrev node : ℕ → SubgraphNode
      node u = record { kind = kind u; edges = map idx (inc u) }

      abbrev edge : ℕ → SubgraphEdge
      edge k =
          record {
            node1 = index_of eqb (edge_of k).node1 p;
            node2 = index_of eqb (edge_of k).node2 p;
            node2_in_node1 = index_of eqb k (inc (edge_of k).node1);
            node1_in_node2 = index_of eqb k (inc (edge_of k).node2);
            message_length = (edge_of k).message_length;
          }

      words_are : words_by_number p
          ≡ length (map node p) ∷ length (map edge ls)
          ∷ (map (λ (x : SubgraphNode). kind_code x.kind) (map node p)
          ++ (map (λ u. label (get_or (built_nodes b) u (grade_node 0))) p
          ++ (first_slots 0 (map node p) ++ (concat (map row_of (map node p)) ++ concat (map edge_words (map edge ls))))))
      unfolding words_by_number graph_words subgraph_by
      words_are = refl

      kinds_are : map (λ u. get_or m.graph (2 + u) 0) p ≡ map (λ (x : SubgraphNode). kind_code x.kind) (map node p)
      kinds_are =
          map_cong (λ u. get_or m.graph (2 + u) 0) (λ u. kind_code (kind u)) p
          (All-mono (λ u. u < n) (λ u. get_or m.graph (2 + u) 0 ≡ kind_code (kind u)) (λ u h. ap (λ (l : List ℕ). get_or l (2 + u) 0) held.graph ∙ built-kind b valid once u h) p p-below)
          ∙ sym (map-map (λ (x : SubgraphNode). kind_code x.kind) node p)

      labels_are : map (λ u. get_or m.graph (2 + n + u) 0) p ≡ map (λ u. label (get_or (built_nodes b) u (grade_node 0))) p
      labels_are =
          map_cong (λ u. get_or m.graph (2 + n + u) 0) (λ u. label (get_or (built_nodes b) u (grade_node 0))) p
          (All-mono (λ u. u < n) (λ u. get_or m.graph (2 + n + u) 0 ≡ label (get_or (built_nodes b) u (grade_node 0))) (λ u h. ap (λ (l : List ℕ). get_or l (2 + n + u) 0) held.graph ∙ built-label b valid once u h) p p-below)

      slots_are : map idx ks ≡ concat (map row_of (map node p))
      slots_are = sym (map-concat idx inc p) ∙ ap concat (sym (map-map row_of node p))

      number_is : (u : ℕ) → u < n → mem eqb u p ≡ true → get_or numbered u 0 - 1 ≡ index_of eqb u p
      number_is u h q = ap (λ (z : ℕ). z - 1) (number_at 0 m.node_numbers p u p_nodup q (omega (arith, held.numbers))) ∙ omega arith

      five-is : (k : ℕ) → Known k → five_words n s m' k ≡ edge_words (edge k)
      five-is k q =
          let a = ap (λ (l : List ℕ). end_of n s l k 0) held.graph ∙ built_node1 b valid once k q.0 in
          let c = ap (λ (l : List ℕ). end_of n s l k 1) held.graph ∙ built_node2 b valid once k q.0 in
          let d = ap (λ (l : List ℕ). end_of n s l k 2) held.graph ∙ built_place2 b valid once k q.0 in
          let f = ap (λ (l : List ℕ). end_of n s l k 3) held.graph ∙ built_place1 b valid once k q.0 in
          let g = ap (λ (l : List ℕ). end_of n s l k 4) held.graph ∙ built-size b valid once k q.0 in
          let o = number_is (edge_of k).node1 (omega (arith, nodes_count b valid once, ends-below b valid once k (omega (arith, q.0, edges_count b valid once)))) q.1.0 in
          let t = number_is (edge_of k).node2 (omega (arith, nodes_count b valid once, ends-below b valid once k (omega (arith, q.0, edges_count b valid once)))) q.1.1 in
          λ i. (ap (λ (z : ℕ). get_or numbered z 0 - 1) a ∙ o) i ∷ (ap (λ (z : ℕ). get_or numbered z 0 - 1) c ∙ t) i ∷ d i ∷ f i ∷ g i ∷ []

      edges_are : concat (map (five_words n s m') ls) ≡ concat (map edge_words (map edge ls))
      edges_are =
          ap concat
          (map_cong (five_words n s m') (λ k. edge_words (edge k)) ls (All-mono Known (λ k. five_words n s m' k ≡ edge_words (edge k)) five-is ls ls-known)
          ∙ sym (map-map edge_words edge ls))

      nodes-below : (i : ℕ) → i < length p → get_or p i 0 < n
      nodes-below i h = all_get_d (λ u. u < n) p p-below 0 i h

      slots_of_lem : (u : ℕ) → u < n → map (Rattle.components.specs.ComponentWalk.slot_of n s m.graph) (range (Rattle.components.specs.ComponentWalk.first_of n s m.graph u) (Rattle.components.specs.ComponentWalk.first_of n s m.graph (u + 1) - Rattle.components.specs.ComponentWalk.first_of n s m.graph u)) ≡ inc u
      slots_of_lem u h = rw held.graph (built-slots b valid once u h)

      known : (t : ℕ) → t < length ks → get_or ks t 0 < length m.edge_numbers
      known t h = subst (λ (z : ℕ). get_or ks t 0 < z) (sym held.edges) (all_get_d Known ks ks-known 0 t h).0

      unseen : (t : ℕ) → t < length ks → eqb (get_or m.edge_numbers (get_or ks t 0) 0) 0 ≡ true
      unseen t h = all_get_d (λ k. eqb (get_or m.edge_numbers k 0) 0 ≡ true) ks ks_free 0 t h

      -- the words that the code writes are the definition's
      written_is : record_words n s at m' inc slots_of_lem p nodes-below known unseen ≡ words_by_number p
      written_is =
          (λ i. sym (length-map p node) i ∷ sym (length-map ls edge) i ∷ (kinds_are i ++ (labels_are i ++ (firsts_are kind inc idx 0 p i ++ (slots_are i ++ edges_are i)))))
          ∙ sym words_are

      words_size : length (words_by_number p) ≡ 3 + 3 * length p + length ks + 5 * length ls
      unfolding words_by_number subgraph_by
      words_size =
          words-length (map (λ u. label (get_or (built_nodes b) u (grade_node 0))) p) (subgraph_by_number (numbered_edges b valid once) (kind_by_number b valid once) p)
          (length-map p (λ u. label (get_or (built_nodes b) u (grade_node 0))) ∙ sym (length-map p node))
          ∙ omega (arith, length-map p node, length-map ls edge, ap length (sym slots_are), length-map ks idx)

      module _ (over : met.stack ≡ []) (room : at + length (words_by_number p) ≤ length m.out) where
        -- the words after the component, and where its record ends
        pub step_is : component_at n s at v m
            ≡ recorded_of (record { graph = m.graph; node_numbers = number_all 0 m.node_numbers p; edge_numbers = number_all 0 m.edge_numbers ls; stack = m.stack; out = put m.out at (words_by_number p) }) (at + length (words_by_number p))
        unfolding component_at
        step_is =
            ap (λ (y : Walk). recorded n s at y.count y.memory) walked-is
            ∙ ap (λ (l : List ℕ). recorded n s at (length p) (record { graph = m.graph; node_numbers = numbered; edge_numbers = m.edge_numbers; stack = stack_all m.stack l; out = sets m.out (at + 2) p })) over
            ∙ ap (λ (l : List ℕ). recorded n s at (length p) (record { graph = m.graph; node_numbers = numbered; edge_numbers = m.edge_numbers; stack = m.stack; out = l })) (put-sets 0 m.out (at + 2) p (omega (arith, words_size)))
            ∙ recorded-put n s at m' inc slots_of_lem p nodes-below known unseen m.out (omega (arith, words_size))
            ∙ ap (λ (l : List ℕ). recorded_of (record { graph = m.graph; node_numbers = numbered; edge_numbers = number_all 0 m.edge_numbers ls; stack = m.stack; out = put m.out at l }) (at + length l)) written_is

        pub step_held : Between (p ++ done) (record { graph = m.graph; node_numbers = number_all 0 m.node_numbers p; edge_numbers = number_all 0 m.edge_numbers ls; stack = m.stack; out = put m.out at (words_by_number p) })
        step_held =
            record {
              graph = held.graph;
              numbers = number-length 0 m.node_numbers p ∙ held.numbers;
              edges = number-length 0 m.edge_numbers ls ∙ held.edges;
              stack = held.stack;
              empty = held.empty;
              marks = λ u h.
                  number_free 0 m.node_numbers p u (omega (arith, held.numbers))
                  ∙ (ap (λ (c : Bool). not (mem eqb u p) && c) (held.marks u h) ∙ (morgan (mem eqb u p) (mem eqb u done) ∙ ap not (sym (mem_append eqb u p done))));
              free = λ k h q.
                  let r = or_no (mem eqb (edge_of k).node1 p) (mem eqb (edge_of k).node1 done) (sym (mem_append eqb (edge_of k).node1 p done) ∙ q) in
                  ap (λ (z : ℕ). eqb z 0) (number_other 0 m.edge_numbers ls k (fresh k r.0 (mem eqb k ls) refl)) ∙ held.free k h r.1;
            }
          where
            morgan : (a c : Bool) → (not a && not c) ≡ not (a || c)
            morgan true c = refl
            morgan false c = refl

            fresh : (k : ℕ) → mem eqb (edge_of k).node1 p ≡ false → (c : Bool) → mem eqb k ls ≡ c → mem eqb k ls ≡ false
            fresh k r true q = absurd (true≢false (sym (All-at eqb eqb_sound Known ls ls-known k q).1.0 ∙ r))
            fresh k r false q = q
