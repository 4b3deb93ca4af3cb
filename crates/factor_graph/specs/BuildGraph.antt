-- The words of the edges, and the lists that the slots are filled with, are those of the built graph by numbers.
use Rattle.std.specs.Prelude.{◌≡◌, Bool, false, cond, ◌||◌, ℕ, suc, ◌+◌, ◌*◌, ◌≤◌, ◌<◌, take, replicate, eqb}
use Rattle.std.proofs.Math.Path.{refl, sym, ap, subst}
use Rattle.std.proofs.Common.{◌∙◌, arith, length-set}
use Rattle.std.proofs.Math.Bool.{true, true≢false}
use mathlib.Core.List.{List, [], ◌∷◌, ◌++◌, map, map-map, append_assoc}
use Rattle.std.proofs.Math.ListN.{length, get_or, length-append}
use Rattle.std.proofs.lemmas.List.{length-map, length-replicate, get_or-replicate}
use Rattle.definition.specs.Lists.{cons_if, filter, concat, mem, index_of}
use Rattle.definition.specs.FactorGraph.{Bale, Pair, eq_pair, Node, eq_node, Edge, eq_edge, grades_of, marker_numbers, marker_edges, built_nodes, built_edges, kind_of}
use Rattle.definition.specs.Components.{SubgraphNode, is_incident, incident_edges, subgraph_node, subgraph_edge}
use Rattle.graph_laws.specs.Bools.{or_left, or_right}
use Rattle.graph_laws.specs.Lists.{All, upto, All-mono, All-every, filter_append, append_none, map_cong, mem_self}
use Rattle.graph_laws.specs.Ranks.{NoDup, index_lt, map_index, mem-filter, All-concat-into}
use Rattle.graph_laws.specs.Names.{eq_node_sound, eq_node-same, Valid, built-inside}
use Rattle.graph_laws.specs.Components.{Holds}
use Rattle.graph_laws.specs.Numbers.{number, number_inj}
use Rattle.graph_laws.specs.Isomorphism.{on_edge}
use Rattle.graph_laws.specs.Distinct.{nodes_nodup, edges_nodup}
use Rattle.graph_laws.specs.Positions.{index_middle, nodup_middle, eq_edge_sound, eq_edge-same}
use Rattle.graph_laws.specs.Incident.{to_grade, of_grade, marker_edges-all}
use Rattle.list_laws.specs.Put.{put, put-none, put_next}
use Rattle.factor_graph.specs.Words.{edge_words, numbered_graph}
use Rattle.factor_graph.specs.BuildGroup.{eqb_swap, more-at}
use Rattle.factor_graph.specs.BuildSums.{take_get_d}
use Rattle.factor_graph.specs.BuildEdges.{Writing, one_more, words_after, push_edge, push_all, push_words}
use Rattle.factor_graph.specs.BuildSlots.{pair_by, ends_from}

-- ---- the words that are pushed, and the degrees afterwards

unfoldable pub encoded : List ℕ → List (Edge ℕ) → List ℕ
encoded d [] = []
encoded d (e ∷ es) = words_after d e ++ encoded (one_more (one_more d e.node1) e.node2) es

unfoldable pub degrees_after : List ℕ → List (Edge ℕ) → List ℕ
degrees_after d [] = d
degrees_after d (e ∷ es) = degrees_after (one_more (one_more d e.node1) e.node2) es

pub length-encoded : (d : List ℕ) (es : List (Edge ℕ)) → length (encoded d es) ≡ 5 * length es
unfolding encoded
length-encoded d [] = refl
length-encoded d (e ∷ es) = omega (arith, length-encoded (one_more (one_more d e.node1) e.node2) es)

pub pushed_degrees_are : (k : ℕ) (es : List (Edge ℕ)) (s : Writing) → (push_all k es s).degrees ≡ degrees_after s.degrees es
unfolding push_all push_edge degrees_after
pushed_degrees_are k [] s = refl
pushed_degrees_are k (e ∷ es) s = pushed_degrees_are (k + 1) es (push_edge k e s)

words_are : (j : ℕ) (x : Edge ℕ) (y : Writing) → (push_edge j x y).words ≡ put y.words (5 * j) (words_after y.degrees x)
unfolding push_edge
words_are j x y = refl

degrees_are : (j : ℕ) (x : Edge ℕ) (y : Writing) → (push_edge j x y).degrees ≡ one_more (one_more y.degrees x.node1) x.node2
unfolding push_edge
degrees_are j x y = refl

pub pushed-words_are : (k : ℕ) (es : List (Edge ℕ)) (s : Writing) → 5 * (k + length es) ≤ length s.words → (push_all k es s).words ≡ put s.words (5 * k) (encoded s.degrees es)
unfolding push_all encoded
pushed-words_are k [] s h = put-none s.words (5 * k) (omega arith)
pushed-words_are k (e ∷ es) s h =
    let d = one_more (one_more s.degrees e.node1) e.node2 in
    let r = encoded d es in
    let i : 5 * (k + 1) ≡ 5 * k + 5 = omega arith in
    pushed-words_are (k + 1) es (push_edge k e s) (rw (push_words k e s (omega arith)) (omega arith))
    ∙ ap (λ (w : List ℕ). put w (5 * (k + 1)) (encoded (push_edge k e s).degrees es)) (words_are k e s)
    ∙ ap (λ (x : List ℕ). put (put s.words (5 * k) (words_after s.degrees e)) (5 * (k + 1)) (encoded x es)) (degrees_are k e s)
    ∙ ap (λ (j : ℕ). put (put s.words (5 * k) (words_after s.degrees e)) j r) i
    ∙ put_next 0 s.words (5 * k) (words_after s.degrees e) r (omega (arith, length-encoded d es))

-- ---- the ends of the edges

unfoldable pub ends : ℕ → List (Edge ℕ) → List Pair
ends k [] = []
ends k (e ∷ es) = pair_by k e.node1 ∷ pair_by k e.node2 ∷ ends (k + 1) es

pub length-ends : (k : ℕ) (es : List (Edge ℕ)) → length (ends k es) ≡ 2 * length es
unfolding ends
length-ends k [] = refl
length-ends k (e ∷ es) = omega (arith, length-ends (k + 1) es)

pub ends-below : (n k : ℕ) (es : List (Edge ℕ)) → All (λ e. (e.node1 < n) × (e.node2 < n)) es → All (λ q. q.marker < n) (ends k es)
unfolding ends
ends-below n k [] h = tt
ends-below n k (e ∷ es) h = (h.0.0, (h.0.1, ends-below n (k + 1) es h.1))

-- read from the words
pub ends_read : (o : List ℕ) (base k : ℕ) (d : List ℕ) (es : List (Edge ℕ)) → ((j : ℕ) → j < 5 * length es → get_or o (base + 5 * k + j) 0 ≡ get_or (encoded d es) j 0) → ends_from o base (length es) k ≡ ends k es
unfolding ends_from ends encoded
ends_read o base k d [] h = refl
ends_read o base k d (e ∷ es) h =
    let z : base + 5 * k + 0 ≡ base + 5 * k = omega arith in
    let d' = one_more (one_more d e.node1) e.node2 in
    ap (λ (x : ℕ). pair_by k x ∷ pair_by k (get_or o (base + 5 * k + 1) 0) ∷ ends_from o base (length es) (k + 1)) (ap (λ (i : ℕ). get_or o i 0) (sym z) ∙ h 0 (omega arith))
    ∙ ap (λ (x : ℕ). pair_by k e.node1 ∷ pair_by k x ∷ ends_from o base (length es) (k + 1)) (h 1 (omega arith))
    ∙ ap (λ (l : List Pair). pair_by k e.node1 ∷ pair_by k e.node2 ∷ l)
    (ends_read o base (k + 1) d' es
    (λ j l.
    let i : base + 5 * (k + 1) + j ≡ base + 5 * k + suc (suc (suc (suc (suc j)))) = omega arith in
    ap (λ (x : ℕ). get_or o x 0) i ∙ h (suc (suc (suc (suc (suc j))))) (omega arith)))

-- ---- the built graph

module _ (b : Bale) (valid : Valid b) (once : NoDup eq_pair b.pairs) where
  abbrev E : List (Edge Node)
  E = built_edges b

  abbrev There : Node → Type 0
  There v = Holds eq_node (built_nodes b) v

  abbrev N : ℕ
  N = length (built_nodes b)

  abbrev num : Node → ℕ
  num v = number b v

  abbrev by_number : List (Edge Node) → List (Edge ℕ)
  by_number es = map (on_edge num) es

  abbrev edge_number : Edge Node → ℕ
  edge_number e = index_of (eq_edge eq_node) e E

  abbrev list_of : Node → List ℕ
  list_of v = map edge_number (incident_edges eq_node E v)

  -- an edge has two ends, both of them nodes
  abbrev Fine : Edge Node → Type 0
  Fine e = (There e.node1 × There e.node2) × (eq_node e.node1 e.node2 ≡ false)

  Apart : Edge Node → Type 0
  Apart e = eq_node e.node1 e.node2 ≡ false

  apart : All Apart E
  unfolding Apart
  apart =
      All-concat-into Apart (λ m. marker_edges m (grades_of b.pairs m)) (marker_numbers b)
      (All-every (λ m. All Apart (marker_edges m (grades_of b.pairs m)))
      (λ m.
      marker_edges-all Apart m (grades_of b.pairs m)
      (λ t. (refl, All-every (λ g. Apart (to_grade m g)) (λ g. refl) (grades_of b.pairs m)))
      (λ t. All-every (λ g. Apart (of_grade m g)) (λ g. refl) (grades_of b.pairs m)) refl)
      (marker_numbers b))

  both : (es : List (Edge Node)) → All (λ e. There e.node1 × There e.node2) es → All Apart es → All Fine es
  unfolding Apart
  both [] p q = tt
  both (e ∷ es) p q = ((p.0, q.0), both es p.1 q.1)

  pub fine : All Fine E
  fine = both E (built-inside b valid) apart

  num-below : (v : Node) → There v → num v < N
  unfolding number
  num-below v h = index_lt eq_node eq_node_sound eq_node-same v (built_nodes b) h

  pub numbers-below : (es : List (Edge Node)) → All Fine es → All (λ e. (e.node1 < N) × (e.node2 < N)) (by_number es)
  numbers-below [] h = tt
  numbers-below (e ∷ es) h = ((num-below e.node1 h.0.0.0, num-below e.node2 h.0.0.1), numbers-below es h.1)

  -- d has the degrees that the edges `pre` make
  record Degrees (pre : List (Edge Node)) (d : List ℕ) : Type 0 where
    at : (v : Node) → There v → get_or d (num v) 0 ≡ length (incident_edges eq_node pre v)
    wide : N ≤ length d

  module _ (pre : List (Edge Node)) (e : Edge Node) (rest : List (Edge Node)) (whole : E ≡ pre ++ e ∷ rest) where
    new : mem (eq_edge eq_node) e pre ≡ false
    new = nodup_middle (eq_edge eq_node) (eq_edge_sound eq_node eq_node_sound eq_node-same) (eq_edge-same eq_node eq_node_sound eq_node-same) pre e rest (subst (NoDup (eq_edge eq_node)) whole (edges_nodup b once))

    edge-number : edge_number e ≡ length pre
    edge-number = ap (index_of (eq_edge eq_node) e) whole ∙ index_middle (eq_edge eq_node) (eq_edge_sound eq_node eq_node_sound eq_node-same) (eq_edge-same eq_node eq_node_sound eq_node-same) pre e rest new

    -- its place in the list of an end
    place_is : (v : Node) → is_incident eq_node v e ≡ true → index_of (eq_edge eq_node) e (incident_edges eq_node E v) ≡ length (incident_edges eq_node pre v)
    place_is v t =
        let sp : incident_edges eq_node E v ≡ incident_edges eq_node pre v ++ e ∷ incident_edges eq_node rest v =
        ap (λ (l : List (Edge Node)). incident_edges eq_node l v) whole ∙ filter_append (is_incident eq_node v) pre (e ∷ rest) ∙ ap (λ (c : Bool). incident_edges eq_node pre v ++ cons_if c e (incident_edges eq_node rest v)) t
        in
        ap (index_of (eq_edge eq_node) e) sp
        ∙ index_middle (eq_edge eq_node) (eq_edge_sound eq_node eq_node_sound eq_node-same) (eq_edge-same eq_node eq_node_sound eq_node-same) (incident_edges eq_node pre v) e (incident_edges eq_node rest v)
        (mem-filter (eq_edge eq_node) (eq_edge_sound eq_node eq_node_sound eq_node-same) (eq_edge-same eq_node eq_node_sound eq_node-same) (is_incident eq_node v) e pre ∙ rw new)

    module _ (f : Fine e) (d : List ℕ) (p : Degrees pre d) where
      abbrev d1 : List ℕ
      d1 = one_more d (num e.node1)

      differ : eqb (num e.node2) (num e.node1) ≡ false
      differ = eqb_swap (num e.node2) (num e.node1) ∙ number_inj b e.node1 e.node2 f.0.0 f.0.1 ∙ f.1

      first-place : get_or d (num e.node1) 0 ≡ index_of (eq_edge eq_node) e (incident_edges eq_node E e.node1)
      first-place = p.at e.node1 f.0.0 ∙ sym (place_is e.node1 (or_left _ _ (eq_node-same e.node1)))

      second_place : get_or d1 (num e.node2) 0 ≡ index_of (eq_edge eq_node) e (incident_edges eq_node E e.node2)
      second_place =
          more-at d (num e.node1) (num e.node2) (omega (arith, num-below e.node1 f.0.0, p.wide))
          ∙ ap (λ (t : Bool). get_or d (num e.node2) 0 + cond t 1 0) differ
          ∙ (let z : get_or d (num e.node2) 0 + 0 ≡ get_or d (num e.node2) 0 = omega arith in z)
          ∙ p.at e.node2 f.0.1
          ∙ sym (place_is e.node2 (or_right (eq_node e.node2 e.node1) _ (eq_node-same e.node2)))

      len1 : length d1 ≡ length d
      len1 = length-set d (num e.node1) (get_or d (num e.node1) 0 + 1)

      degrees_next : Degrees (pre ++ e ∷ []) (one_more d1 (num e.node2))
      degrees_next =
          record {
            at = at_next;
            wide = rw (length-set d1 (num e.node2) (get_or d1 (num e.node2) 0 + 1), len1) p.wide;
          }
        where
          not-both : (x y : Bool) → (x ≡ true → y ≡ true → ⊥) → cond x 1 0 + cond y 1 0 ≡ length (cons_if (x || y) e [])
          not-both true true h = absurd (h refl refl)
          not-both true false h = omega arith
          not-both false true h = omega arith
          not-both false false h = omega arith

          one_end : (v : Node) → eq_node v e.node1 ≡ true → eq_node v e.node2 ≡ true → ⊥
          one_end v x y =
              true≢false
              (sym (eq_node-same v)
              ∙ ap (λ (w : Node). eq_node w v) (eq_node_sound v e.node1 x)
              ∙ ap (eq_node e.node1) (eq_node_sound v e.node2 y)
              ∙ f.1)

          at_next : (v : Node) → There v → get_or (one_more d1 (num e.node2)) (num v) 0 ≡ length (incident_edges eq_node (pre ++ e ∷ []) v)
          at_next v h =
              let s1 = more-at d (num e.node1) (num v) (omega (arith, num-below e.node1 f.0.0, p.wide)) ∙ ap (λ (t : Bool). get_or d (num v) 0 + cond t 1 0) (number_inj b v e.node1 h f.0.0) in
              let s2 = more-at d1 (num e.node2) (num v) (omega (arith, num-below e.node2 f.0.1, p.wide, len1)) ∙ ap (λ (t : Bool). get_or d1 (num v) 0 + cond t 1 0) (number_inj b v e.node2 h f.0.1) in
              let s3 = ap length (filter_append (is_incident eq_node v) pre (e ∷ [])) ∙ length-append (incident_edges eq_node pre v) (cons_if (is_incident eq_node v e) e []) in
              let s4 = not-both (eq_node v e.node1) (eq_node v e.node2) (one_end v) in
              omega (arith, s1, s2, s3, s4, p.at v h)

  edges-from : (pre rest : List (Edge Node)) → E ≡ pre ++ rest → All Fine rest → (d : List ℕ) → Degrees pre d →
      (encoded d (by_number rest) ≡ concat (map edge_words (map (subgraph_edge eq_node E (built_nodes b)) rest))) × Degrees E (degrees_after d (by_number rest))
  unfolding encoded degrees_after number
  edges-from pre [] w f d p = (refl, subst (λ (l : List (Edge Node)). Degrees l d) (sym (w ∙ append_none pre)) p)
  edges-from pre (e ∷ rest) w f d p =
      let r = edges-from (pre ++ e ∷ []) rest (w ∙ sym (append_assoc pre (e ∷ []) rest)) f.1 (one_more (one_more d (num e.node1)) (num e.node2)) (degrees_next pre e rest w f.0 d p) in
      let d1 = one_more d (num e.node1) in
      let t = encoded (one_more d1 (num e.node2)) (by_number rest) in (
        ap (λ (x : ℕ). num e.node1 ∷ num e.node2 ∷ x ∷ get_or d1 (num e.node2) 0 ∷ e.message_length ∷ t) (first-place pre e rest w f.0 d p)
            ∙ ap (λ (x : ℕ). num e.node1 ∷ num e.node2 ∷ index_of (eq_edge eq_node) e (incident_edges eq_node E e.node1) ∷ x ∷ e.message_length ∷ t) (second_place pre e rest w f.0 d p)
            ∙ ap (λ (l : List ℕ). edge_words (subgraph_edge eq_node E (built_nodes b) e) ++ l) r.0,
        r.1,
      )

  -- ---- the lists

  lists-from : (pre rest : List (Edge Node)) → E ≡ pre ++ rest → All Fine rest → (v : Node) → There v → grades_of (ends (length pre) (by_number rest)) (num v) ≡ map edge_number (incident_edges eq_node rest v)
  unfolding ends
  lists-from pre [] w f v h = refl
  lists-from pre (e ∷ rest) w f v h =
      let n : length (pre ++ e ∷ []) ≡ length pre + 1 = length-append pre (e ∷ []) in
      let r = ap (λ (k : ℕ). grades_of (ends k (by_number rest)) (num v)) (sym n) ∙ lists-from (pre ++ e ∷ []) rest (w ∙ sym (append_assoc pre (e ∷ []) rest)) f.1 v h in
      let x = eqb_swap (num e.node1) (num v) ∙ number_inj b v e.node1 h f.0.0.0 in
      let y = eqb_swap (num e.node2) (num v) ∙ number_inj b v e.node2 h f.0.0.1 in
      rw (x, y) (go (eq_node v e.node1) (eq_node v e.node2) (one_end) (length pre) (sym (edge-number pre e rest w)) (ends (length pre + 1) (by_number rest)) r)
    where
      one_end : eq_node v e.node1 ≡ true → eq_node v e.node2 ≡ true → ⊥
      one_end p q =
          true≢false
          (sym (eq_node-same v)
          ∙ ap (λ (u : Node). eq_node u v) (eq_node_sound v e.node1 p)
          ∙ ap (eq_node e.node1) (eq_node_sound v e.node2 q)
          ∙ f.0.1)

      go : (p q : Bool) → (p ≡ true → q ≡ true → ⊥) → (k : ℕ) → k ≡ edge_number e → (l : List Pair) → grades_of l (num v) ≡ map edge_number (incident_edges eq_node rest v)
          → map (λ r. r.grade) (cons_if p (pair_by k (num e.node1)) (cons_if q (pair_by k (num e.node2)) (filter (λ r. eqb r.marker (num v)) l)))
          ≡ map edge_number (cons_if (p || q) e (incident_edges eq_node rest v))
      go true true o k s l r = absurd (o refl refl)
      go true false o k s l r = ap (λ (x : ℕ). x ∷ map (λ z. z.grade) (filter (λ z. eqb z.marker (num v)) l)) s ∙ ap (λ (x : List ℕ). edge_number e ∷ x) r
      go false true o k s l r = ap (λ (x : ℕ). x ∷ map (λ z. z.grade) (filter (λ z. eqb z.marker (num v)) l)) s ∙ ap (λ (x : List ℕ). edge_number e ∷ x) r
      go false false o k s l r = r

  -- ---- as the graph has them

  nodes-there : All There (built_nodes b)
  nodes-there = mem_self eq_node eq_node-same (built_nodes b)

  numbers : map num (built_nodes b) ≡ upto N
  unfolding number
  numbers = map_index eq_node eq_node_sound eq_node-same (built_nodes b) (nodes_nodup b)

  -- the slots of the nodes, in the order of their numbers, are their lists
  pub slot_lists : map (grades_of (ends 0 (by_number E))) (upto N) ≡ map (λ (x : SubgraphNode). x.edges) (numbered_graph b).nodes
  unfolding numbered_graph
  slot_lists =
      ap (map (grades_of (ends 0 (by_number E)))) (sym numbers)
      ∙ map-map (grades_of (ends 0 (by_number E))) num (built_nodes b)
      ∙ map_cong (λ v. grades_of (ends 0 (by_number E)) (num v)) list_of (built_nodes b)
      (All-mono There (λ v. grades_of (ends 0 (by_number E)) (num v) ≡ list_of v) (λ v h. lists-from [] E refl fine v h) (built_nodes b) nodes-there)
      ∙ sym (map-map (λ (x : SubgraphNode). x.edges) (subgraph_node eq_node (kind_of b) E E) (built_nodes b))

  module _ (wide : ℕ) (fits : N ≤ wide) where
    abbrev zeros : List ℕ
    zeros = replicate wide 0

    no_degrees : Degrees [] zeros
    no_degrees = record { at = λ v h. get_or-replicate wide (num v) 0 0 (omega (arith, num-below v h)); wide = rw (length-replicate {A = ℕ} wide 0) fits }

    pub edge-words : encoded zeros (by_number E) ≡ concat (map edge_words (numbered_graph b).edges)
    unfolding numbered_graph
    edge-words = (edges-from [] E refl fine zeros no_degrees).0

    last_degrees : Degrees E (degrees_after zeros (by_number E))
    last_degrees = (edges-from [] E refl fine zeros no_degrees).1

    pub node_degrees : take N (degrees_after zeros (by_number E)) ≡ map (λ (x : SubgraphNode). length x.edges) (numbered_graph b).nodes
    unfolding numbered_graph
    node_degrees =
        take_get_d (degrees_after zeros (by_number E)) N last_degrees.wide
        ∙ ap (map (λ k. get_or (degrees_after zeros (by_number E)) k 0)) (sym numbers)
        ∙ map-map (λ k. get_or (degrees_after zeros (by_number E)) k 0) num (built_nodes b)
        ∙ map_cong (λ v. get_or (degrees_after zeros (by_number E)) (num v) 0) (λ v. length (list_of v)) (built_nodes b)
        (All-mono There (λ v. get_or (degrees_after zeros (by_number E)) (num v) 0 ≡ length (list_of v)) (λ v h. last_degrees.at v h ∙ sym (length-map (incident_edges eq_node E v) edge_number)) (built_nodes b) nodes-there)
        ∙ sym (map-map (λ (x : SubgraphNode). length x.edges) (subgraph_node eq_node (kind_of b) E E) (built_nodes b))

    -- the degrees are how many ends each node has
    pub degrees_counted : take N (degrees_after zeros (by_number E)) ≡ map (λ k. length (grades_of (ends 0 (by_number E)) k)) (upto N)
    degrees_counted =
        node_degrees
        ∙ sym (map-map length (λ (x : SubgraphNode). x.edges) (numbered_graph b).nodes)
        ∙ ap (map length) (sym slot_lists)
        ∙ map-map length (grades_of (ends 0 (by_number E))) (upto N)
