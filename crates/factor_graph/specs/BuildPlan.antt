-- What building rests on: the numbers of nodes and edges, and that the words which the parts write are the record of the built graph. The evidence is not read.
use Rattle.std.specs.Prelude.{◌≡◌, Bool, true, false, get_or, drop, replicate, leb}
use Rattle.std.proofs.Math.Path.{refl, sym, ap}
use Rattle.std.proofs.Common.{◌∙◌, subst, arith, leb-true}
use mathlib.Core.List.{List, ◌∷◌, ◌++◌, map, map-append}
use Prim.Native.Nat.{ℕ, zero, suc, ◌+◌, ◌-◌, ◌*◌, ◌≤◌, ◌<◌}
use Rattle.std.proofs.Math.ListN.{length, take, length-replicate}
use Rattle.std.proofs.lemmas.List.{length-map}
use Rattle.std.proofs.Math.Seq.{take-append_seam, drop-append_seam}
use Rattle.definition.specs.Lists.{range, cons_if, filter, concat}
use Rattle.definition.specs.FactorGraph.{Bale, Pair, eq_pair, grades_of, has_tree, marker_numbers, built_nodes, built_edges, no_evidence, Edge}
use Rattle.definition.specs.Components.{SubgraphNode}
use Rattle.graph_laws.specs.Lists.{All, upto, range_append, concat_append, All-mono}
use Rattle.graph_laws.specs.Ranks.{NoDup}
use Rattle.graph_laws.specs.Numbers.{number}
use Rattle.graph_laws.specs.Isomorphism.{on_edge}
use Rattle.graph_laws.specs.Sizes.{nodes-length, edges-length}
use Rattle.list_laws.specs.Part.{region}
use Rattle.list_laws.specs.Put.{put, region_in}
use Rattle.factor_graph.specs.Words.{kind_code, edge_words, first_slots, graph_words, label, numbered_graph, built_words}
use Rattle.factor_graph.specs.BuildGroup.{rows, start, rows-length, start-le, start-suc, tally, tally-at}
use Rattle.factor_graph.specs.BuildSums.{sums, first_slots-sums}
use Rattle.factor_graph.specs.BuildSort.{zeros, get_d_zeros, Counted}
use Rattle.factor_graph.specs.BuildEdges.{Inside, edges_from}
use Rattle.factor_graph.specs.BuildNodes.{trees_from, trees_few, kind_words, label_words}
use Rattle.factor_graph.specs.BuildNumbers.{edges-by-number, trees-by-number}
use Rattle.factor_graph.specs.BuildGraph.{encoded, degrees_after, ends, fine, numbers-below, slot_lists, edge-words, node_degrees, degrees_counted}
use Rattle.factor_graph.specs.BuildRecord.{kinds_are, labels_are}

-- ---- a row among the rows

pub region-row : {A : Type 0} (f : ℕ → List A) (M m : ℕ) → m < M → region (rows f M) (start f m) (length (f m)) ≡ f m
region-row f M m h =
    let k = M - suc m in
    let a : M ≡ m + suc k = omega arith in
    let z : 0 + m ≡ m = omega arith in
    let rest = concat (map f (range (suc m) k)) in
    let e : rows f M ≡ rows f m ++ (f m ++ rest) =
    ap (λ (n : ℕ). rows f n) a
    ∙ ap (λ (l : List ℕ). concat (map f l)) (range_append 0 m (suc k) ∙ ap (λ (i : ℕ). upto m ++ range i (suc k)) z)
    ∙ ap concat (map-append f (upto m) (m ∷ range (suc m) k))
    ∙ concat_append (map f (upto m)) (f m ∷ map f (range (suc m) k))
    in
    ap (λ l. take (length (f m)) (drop (start f m) l)) e
    ∙ ap (take (length (f m))) (drop-append_seam (rows f m) (f m ++ rest))
    ∙ take-append_seam (f m) rest

-- ---- how many trees there are

trees-half : (row : ℕ → List ℕ) (counts : List ℕ) (M : ℕ) → ((m : ℕ) → m < M → get_or counts m 0 ≡ length (row m)) → (n m : ℕ) → m + n ≡ M → 2 * length (trees_from counts n m) + start row m ≤ start row M
unfolding trees_from
trees-half row counts M c zero m h = let e : m ≡ M = omega arith in rw e (omega arith)
trees-half row counts M c (suc n) m h =
    let a : m + 1 ≡ suc m = omega arith in
    let r = trees-half row counts M c n (m + 1) (omega arith) in
    let s : start row (m + 1) ≡ start row m + length (row m) = ap (start row) a ∙ start-suc row m in
    go (leb 2 (get_or counts m 0)) refl r s
  where
    go : (b : Bool) → leb 2 (get_or counts m 0) ≡ b → 2 * length (trees_from counts n (m + 1)) + start row (m + 1) ≤ start row M → start row (m + 1) ≡ start row m + length (row m)
        → 2 * length (cons_if b m (trees_from counts n (m + 1))) + start row m ≤ start row M
    go true e r s = omega (arith, leb-true 2 (get_or counts m 0) e, c m (omega arith))
    go false e r s = omega arith

-- ---- what is given, and what it comes to

abbrev pub Known : ℕ → ℕ → List Pair → Type 0
Known G M ps = All (λ q. (q.grade < G) × (q.marker < M)) ps

pub record Given (counts grades : List ℕ) (G M : ℕ) (ps : List Pair) : Type 0 where
  pub known : Known G M ps
  pub once : NoDup eq_pair ps
  pub few : (G ≤ 1024) × (M ≤ 1024)
  pub counted : (m : ℕ) → m < M → get_or counts m 0 ≡ length (grades_of ps m)
  pub sorted : (m : ℕ) → m < M → region grades (start (grades_of ps) m) (length (grades_of ps m)) ≡ grades_of ps m

abbrev pub edges_of : List ℕ → List ℕ → ℕ → ℕ → List (Edge ℕ)
edges_of counts grades G M = edges_from G (G + M) counts grades M 0 (G + 2 * M) 0

abbrev pub trees_in : List ℕ → ℕ → ℕ
trees_in counts M = length (trees_from counts M 0)

abbrev pub nodes_in : List ℕ → ℕ → ℕ → ℕ
nodes_in counts G M = G + 2 * M + trees_in counts M

abbrev pub edges_in : List ℕ → ℕ → List Pair → ℕ
edges_in counts M ps = length ps + M + trees_in counts M

pub record Plan (counts grades : List ℕ) (G M : ℕ) (ps : List Pair) : Type 0 where
  pub edge_count : length (edges_of counts grades G M) ≡ edges_in counts M ps
  pub inside : All (Inside (nodes_in counts G M)) (edges_of counts grades G M)
  pub degrees : Counted (nodes_in counts G M) (ends 0 (edges_of counts grades G M)) (degrees_after (zeros 4096) (edges_of counts grades G M))

-- the words of the parts, in their order
unfoldable pub record_words : List ℕ → List ℕ → ℕ → ℕ → List Pair → List ℕ
record_words counts grades G M ps =
    nodes_in counts G M ∷ edges_in counts M ps ∷ kind_words G M (trees_in counts M)
    ++ (label_words G M counts
    ++ (sums 0 (take (nodes_in counts G M) (degrees_after (zeros 4096) (edges_of counts grades G M)))
    ++ (rows (grades_of (ends 0 (edges_of counts grades G M))) (nodes_in counts G M) ++ encoded (zeros 4096) (edges_of counts grades G M))))

count_nodes : (b : Bale) → length (numbered_graph b).nodes ≡ length (built_nodes b)
unfolding numbered_graph
count_nodes b = length-map (built_nodes b) _

count_edges : (b : Bale) → length (numbered_graph b).edges ≡ length (built_edges b)
unfolding numbered_graph
count_edges b = length-map (built_edges b) _

module _ (counts grades : List ℕ) (b : Bale) (g : Given counts grades b.grades (length b.markers) b.pairs) where
  abbrev G : ℕ
  G = b.grades

  abbrev M : ℕ
  M = length b.markers

  abbrev es : List (Edge ℕ)
  es = map (on_edge (number b)) (built_edges b)

  edges_are : edges_of counts grades G M ≡ es
  edges_are = edges-by-number b g.known counts grades g.counted g.sorted

  trees_are : trees_from counts M 0 ≡ filter (λ m. has_tree (grades_of b.pairs m)) (marker_numbers b)
  trees_are = trees-by-number b g.known counts grades g.counted g.sorted

  nodes_are : nodes_in counts G M ≡ length (built_nodes b)
  nodes_are = omega (arith, nodes-length b, ap length trees_are)

  count_is : edges_in counts M b.pairs ≡ length (built_edges b)
  count_is = omega (arith, edges-length b g.known, ap length trees_are)

  wide : length (built_nodes b) ≤ 4096
  wide = omega (arith, sym nodes_are, g.few.0, g.few.1, trees_few counts M 0)

  bale_plan : Plan counts grades G M b.pairs
  bale_plan =
      record {
        edge_count = ap length edges_are ∙ length-map (built_edges b) (on_edge (number b)) ∙ sym count_is;
        inside =
            subst (All (Inside (nodes_in counts G M))) (sym edges_are)
            (subst (λ (n : ℕ). All (Inside n) es) (sym nodes_are) (numbers-below b g.known g.once (built_edges b) (fine b g.known g.once)));
        degrees =
            subst (λ (l : List (Edge ℕ)). Counted (nodes_in counts G M) (ends 0 l) (degrees_after (zeros 4096) l)) (sym edges_are)
            (subst (λ (n : ℕ). Counted n (ends 0 es) (degrees_after (zeros 4096) es)) (sym nodes_are) (degrees_counted b g.known g.once 4096 wide));
      }

  bale-words : built_words b ≡ record_words counts grades G M b.pairs
  unfolding built_words graph_words record_words
  bale-words =
      let N = length (built_nodes b) in
      let len : length (numbered_graph b).nodes ≡ N = count_nodes b in
      let cnt : length (numbered_graph b).edges ≡ length (built_edges b) = count_edges b in
      let K = kind_words G M (trees_in counts M) in
      let D = degrees_after (zeros 4096) es in
      let R = grades_of (ends 0 es) in
      ap (λ (x : ℕ). x ∷ length (numbered_graph b).edges ∷ kinds ++ (labels ++ (firsts ++ (slots ++ edges)))) (len ∙ sym nodes_are)
      ∙ ap (λ (x : ℕ). n ∷ x ∷ kinds ++ (labels ++ (firsts ++ (slots ++ edges)))) (cnt ∙ sym count_is)
      ∙ ap (λ (x : List ℕ). n ∷ e ∷ x ++ (labels ++ (firsts ++ (slots ++ edges)))) (kinds_are b ∙ ap (λ (l : List ℕ). kind_words G M (length l)) (sym trees_are))
      ∙ ap (λ (x : List ℕ). n ∷ e ∷ K ++ (x ++ (firsts ++ (slots ++ edges)))) (labels_are b ∙ ap (λ (l : List ℕ). range 0 G ++ (marker_numbers b ++ (marker_numbers b ++ l))) (sym trees_are))
      ∙ ap (λ (x : List ℕ). n ∷ e ∷ K ++ (label_words G M counts ++ (x ++ (slots ++ edges)))) (first_slots-sums 0 (numbered_graph b).nodes ∙ ap (sums 0) (sym (node_degrees b g.known g.once 4096 wide) ∙ ap (λ (i : ℕ). take i D) (sym nodes_are)))
      ∙ ap (λ (x : List ℕ). n ∷ e ∷ K ++ (label_words G M counts ++ (sums 0 (take n D) ++ (x ++ edges)))) (ap concat (sym (slot_lists b g.known g.once)) ∙ ap (rows R) (sym nodes_are))
      ∙ ap (λ (x : List ℕ). n ∷ e ∷ K ++ (label_words G M counts ++ (sums 0 (take n D) ++ (rows R n ++ x)))) (sym (edge-words b g.known g.once 4096 wide))
      ∙ ap (λ (l : List (Edge ℕ)). n ∷ e ∷ K ++ (label_words G M counts ++ (sums 0 (take n (degrees_after (zeros 4096) l)) ++ (rows (grades_of (ends 0 l)) n ++ encoded (zeros 4096) l)))) (sym edges_are)
    where
      n : ℕ
      n = nodes_in counts G M

      e : ℕ
      e = edges_in counts M b.pairs

      kinds : List ℕ
      kinds = map (λ (x : SubgraphNode). kind_code x.kind) (numbered_graph b).nodes

      labels : List ℕ
      labels = map label (built_nodes b)

      firsts : List ℕ
      firsts = first_slots 0 (numbered_graph b).nodes

      slots : List ℕ
      slots = concat (map (λ (x : SubgraphNode). x.edges) (numbered_graph b).nodes)

      edges : List ℕ
      edges = concat (map edge_words (numbered_graph b).edges)

-- ---- for any bale with these grades, markers and pairs

module _ (F : ℕ → ℕ → List Pair → Type 0) (G M : ℕ) (ps : List Pair) (b : Bale) (eg : b.grades ≡ G) (em : length b.markers ≡ M) (ep : b.pairs ≡ ps) where
  to-bale : F G M ps → F b.grades (length b.markers) b.pairs
  to-bale h = subst (λ (x : ℕ). F x (length b.markers) b.pairs) (sym eg) (subst (λ (x : ℕ). F G x b.pairs) (sym em) (subst (F G M) (sym ep) h))

  from-bale : F b.grades (length b.markers) b.pairs → F G M ps
  from-bale h = subst (F G M) ep (subst (λ (x : ℕ). F G x b.pairs) em (subst (λ (x : ℕ). F x (length b.markers) b.pairs) eg h))

module _ (counts grades : List ℕ) (G M : ℕ) (ps : List Pair) (g : Given counts grades G M ps) where
  plain : Bale
  plain = record { grades = G; markers = replicate M no_evidence; pairs = ps }

  pub plan : Plan counts grades G M ps
  unfolding plain
  plan =
      let em = length-replicate M no_evidence in
      from-bale (Plan counts grades) G M ps plain refl em refl (bale_plan counts grades plain (to-bale (Given counts grades) G M ps plain refl em refl g))

  pub plan_words : (b : Bale) → b.grades ≡ G → length b.markers ≡ M → b.pairs ≡ ps → record_words counts grades G M ps ≡ built_words b
  plan_words b eg em ep = from-bale (λ x y qs. record_words counts grades x y qs ≡ built_words b) G M ps b eg em ep (sym (bale-words counts grades b (to-bale (Given counts grades) G M ps b eg em ep g)))

  -- no more than half as many trees as pairs
  pub few_trees : 2 * trees_in counts M ≤ length ps
  few_trees =
      omega
      (arith, trees-half (grades_of ps) counts M g.counted M 0 (omega arith), rows-length M ps (All-mono (λ q. (q.grade < G) × (q.marker < M)) (λ q. q.marker < M) (λ q h. h.1) ps g.known))

-- the sorted pairs are what is given
pub given : (G M : ℕ) (ps : List Pair) (counts grades : List ℕ) → Known G M ps → NoDup eq_pair ps → G ≤ 1024 → M ≤ 1024 → length ps ≤ 8192 → counts ≡ tally ps (zeros 1024) → grades ≡ put (zeros 8192) 0 (rows (grades_of ps) M) → Given counts grades G M ps
given G M ps counts grades known once fg fm fp ec eg =
    let lc : length (zeros 1024) ≡ 1024 = length-replicate {A = ℕ} 1024 0 in
    let lg : length (zeros 8192) ≡ 8192 = length-replicate {A = ℕ} 8192 0 in
    let keys : All (λ q. q.marker < M) ps = All-mono (λ q. (q.grade < G) × (q.marker < M)) (λ q. q.marker < M) (λ q h. h.1) ps known in
    let near : All (λ q. q.marker < length (zeros 1024)) ps = All-mono (λ q. q.marker < M) (λ q. q.marker < length (zeros 1024)) (λ q h. omega arith) ps keys in
    record {
      known = known;
      once = once;
      few = (fg, fm);
      counted = λ m h. ap (λ (l : List ℕ). get_or l m 0) ec ∙ tally-at ps (zeros 1024) m near ∙ omega (arith, get_d_zeros 1024 m);
      sorted =
          λ m h.
          let z : 0 + start (grades_of ps) m ≡ start (grades_of ps) m = omega arith in
          ap (λ (l : List ℕ). region l (start (grades_of ps) m) (length (grades_of ps m))) eg
          ∙ ap (λ (i : ℕ). region (put (zeros 8192) 0 (rows (grades_of ps) M)) i (length (grades_of ps m))) (sym z)
          ∙ region_in 0 (zeros 8192) 0 (rows (grades_of ps) M) (start (grades_of ps) m) (length (grades_of ps m)) (omega (arith, rows-length M ps keys)) (omega (arith, start-suc (grades_of ps) m, start-le (grades_of ps) (suc m) M (omega arith)))
          ∙ region-row (grades_of ps) M m h;
    }
