-- A component's record in words, read: where its parts stand, and what each word of it is.
use Rattle.std.specs.Prelude.{ℕ, zero, suc, ◌+◌, ◌*◌, ◌≤◌, ◌<◌, ◌≡◌, refl, List, [], ◌∷◌, ◌++◌, map, length, get_or, take, drop}
use Rattle.std.proofs.Common.{arith, sym, ap, ◌∙◌, ext_get_or, take-take, drop-drop, get_or-append-add}
use Rattle.std.proofs.lemmas.List.{length-map}
use Rattle.std.proofs.Math.ListN.{length-append, get_or-append}
use Rattle.std.proofs.Math.Seq.{take-append_seam, drop-append_seam}
use Rattle.definition.specs.Lists.{concat}
use Rattle.definition.specs.FactorGraph.{Kind, grade, factor, input, tree}
use Rattle.definition.specs.Components.{Subgraph, SubgraphNode, SubgraphEdge}
use Rattle.definition.specs.Directions.{MessageNode, no_edge, no_message_node, edge_at, message_graph, node_at}
use Rattle.claims.specs.Parts.{no_node, subgraph_node_at, degree_of, edge_number_at}
use Rattle.graph_laws.specs.DirectionNumbers.{get_d_mapped, before, message_nodes_count, message_node_kind, outs_count, first-is}
use Rattle.graph_laws.specs.Consistency.{Consistent}
use Rattle.list_laws.specs.Part.{region, get_d_region}
use Rattle.factor_graph.specs.Words as words
use Rattle.factor_graph.specs.Words.{edge_words, first_slots, graph_words}
use Rattle.messages.specs.Layout.{kind_code, firsts_of}
use Rattle.messages.specs.LayoutLists.{drop-take}
use Rattle.messages.specs.LayoutOrder.{length-firsts, firsts-end, in_order}

-- ---- where the parts of a record stand: `at` is its first word, n and e are its counts

abbrev pub firsts_place : ℕ → ℕ → ℕ
firsts_place at n = at + 2 + 2 * n

abbrev pub slots_place : ℕ → ℕ → ℕ
slots_place at n = at + 3 + 3 * n

abbrev pub edges_place : ℕ → ℕ → ℕ → ℕ
edges_place at n e = at + 3 + 3 * n + 2 * e

abbrev pub record_end : ℕ → ℕ → ℕ → ℕ
record_end at n e = at + 3 + 3 * n + 7 * e

-- the record of graph g stands in the words w from index `at` on
pub record Recorded (w : List ℕ) (at : ℕ) (labels : List ℕ) (g : Subgraph) : Type 0 where
  pub consistent : Consistent g (message_graph g)
  pub labelled : length labels ≡ length g.nodes
  pub room : at + length (graph_words labels g) ≤ length w
  pub stands : region w at (length (graph_words labels g)) ≡ graph_words labels g

-- ---- a list that stands in words, its front and its back

module _ {A : Type 0} where
  abbrev pub Stands : List A → ℕ → List A → Type 0
  Stands w at l = region w at (length l) ≡ l

  pub stands_front : (w : List A) (at : ℕ) (a b : List A) → Stands w at (a ++ b) → Stands w at a
  stands_front w at a b e =
      sym (take-take (length a) (length (a ++ b)) (drop at w) (omega (arith, length-append a b))) ∙ ap (take (length a)) e ∙ take-append_seam a b

  pub stands_back : (w : List A) (at : ℕ) (a b : List A) → Stands w at (a ++ b) → Stands w (at + length a) b
  stands_back w at a b e =
      ap (take (length b)) (sym (drop-drop (length a) at w)) ∙ sym (drop-take (length a) (length b) (drop at w))
      ∙ ap (λ (k : ℕ). drop (length a) (take k (drop at w))) (sym (length-append a b)) ∙ ap (drop (length a)) e ∙ drop-append_seam a b

  pub stands_at : (w : List A) (at : ℕ) (l : List A) (d : A) (i : ℕ) → Stands w at l → i < length l → get_or w (at + i) d ≡ get_or l i d
  stands_at w at l d i e h = sym (get_d_region w at (length l) i d h) ∙ ap (λ (m : List A). get_or m i d) e

-- ---- the parts' lengths, and what stands where

length-first_slots : (f : ℕ) (xs : List SubgraphNode) → length (first_slots f xs) ≡ suc (length xs)
length-first_slots f [] = refl
length-first_slots f (x ∷ xs) = ap suc (length-first_slots (f + length x.edges) xs)

first_slots-next : (f : ℕ) (xs : List SubgraphNode) (n : ℕ) → n < length xs → get_or (first_slots f xs) (suc n) 0 ≡ get_or (first_slots f xs) n 0 + length (get_or xs n no_node).edges
first_slots-next f [] n h = absurd (let z : ⊥ = omega arith in z)
first_slots-next f (x ∷ []) zero h = refl
first_slots-next f (x ∷ y ∷ xs) zero h = refl
first_slots-next f (x ∷ xs) (suc n) h = first_slots-next (f + length x.edges) xs n (omega arith)

first_slots-zero : (f : ℕ) (xs : List SubgraphNode) → get_or (first_slots f xs) 0 0 ≡ f
first_slots-zero f [] = refl
first_slots-zero f (x ∷ xs) = refl

abbrev slots_of : List SubgraphNode → List ℕ
slots_of xs = concat (map (λ (x : SubgraphNode). x.edges) xs)

-- the slots of a node begin where those of the nodes before it end
slots_at_lem : (xs : List SubgraphNode) (n i : ℕ) → n < length xs → i < length (get_or xs n no_node).edges → get_or (slots_of xs) (before xs n + i) 0 ≡ get_or (get_or xs n no_node).edges i 0
slots_at_lem [] n i h k = absurd (let z : ⊥ = omega arith in z)
slots_at_lem (x ∷ xs) zero i h k = ap (λ (m : ℕ). get_or (x.edges ++ slots_of xs) m 0) (let z : 0 + i ≡ i = omega arith in z) ∙ get_or-append x.edges (slots_of xs) 0 i k
slots_at_lem (x ∷ xs) (suc n) i h k =
    ap (λ (m : ℕ). get_or (x.edges ++ slots_of xs) m 0) (let z : length x.edges + before xs n + i ≡ length x.edges + (before xs n + i) = omega arith in z)
    ∙ get_or-append-add x.edges (slots_of xs) (before xs n + i) 0 ∙ slots_at_lem xs n i (omega arith) k

length-slots : (f : ℕ) (xs : List SubgraphNode) → get_or (first_slots f xs) (length xs) 0 ≡ f + length (slots_of xs)
length-slots f [] = omega arith
length-slots f (x ∷ xs) = omega (arith, length-slots (f + length x.edges) xs, length-append x.edges (slots_of xs))

abbrev edges_of : List SubgraphEdge → List ℕ
edges_of es = concat (map edge_words es)

length-edges : (es : List SubgraphEdge) → length (edges_of es) ≡ 5 * length es
length-edges [] = refl
length-edges (x ∷ es) = omega (arith, length-edges es)

edges_at : (es : List SubgraphEdge) (k j : ℕ) → k < length es → j < 5 → get_or (edges_of es) (5 * k + j) 0 ≡ get_or (edge_words (get_or es k no_edge)) j 0
edges_at [] k j h l = absurd (let z : ⊥ = omega arith in z)
edges_at (x ∷ es) zero j h l = ap (λ (m : ℕ). get_or (edge_words x ++ edges_of es) m 0) (let z : 5 * 0 + j ≡ j = omega arith in z) ∙ get_or-append (edge_words x) (edges_of es) 0 j l
edges_at (x ∷ es) (suc k) j h l =
    ap (λ (m : ℕ). get_or (edge_words x ++ edges_of es) m 0) (let z : 5 * suc k + j ≡ length (edge_words x) + (5 * k + j) = omega arith in z)
    ∙ get_or-append-add (edge_words x) (edges_of es) (5 * k + j) 0 ∙ edges_at es k j (omega arith) l

-- ---- the first slots are the first directions

module _ (g : Subgraph) where
  same-firsts : (n : ℕ) → n ≤ length g.nodes → get_or (first_slots 0 g.nodes) n 0 ≡ get_or (firsts_of (message_graph g)) n 0
  same-firsts zero h = first_slots-zero 0 g.nodes ∙ sym (in_order g).from_zero
  same-firsts (suc n) h =
      omega (arith, first_slots-next 0 g.nodes n h, same-firsts n (omega arith), (in_order g).after n (omega (arith, message_nodes_count g)), outs_count g n h)

  pub firsts-recorded : first_slots 0 g.nodes ≡ firsts_of (message_graph g)
  firsts-recorded =
      ext_get_or 0 (first_slots 0 g.nodes) (firsts_of (message_graph g)) (omega (arith, length-first_slots 0 g.nodes, length-firsts (message_graph g), message_nodes_count g))
      (λ i h. same-firsts i (omega (arith, length-first_slots 0 g.nodes)))

-- ---- and the kinds are the kinds

same_code : (k : Kind) → words.kind_code k ≡ kind_code k
same_code grade = refl
same_code (factor d) = refl
same_code (input e) = refl
same_code (tree d) = refl

abbrev codes_of : List SubgraphNode → List ℕ
codes_of xs = map (λ (x : SubgraphNode). words.kind_code x.kind) xs

pub kinds-recorded : (g : Subgraph) → codes_of g.nodes ≡ map (λ (x : MessageNode). kind_code x.kind) (message_graph g).nodes
kinds-recorded g =
    let t = message_graph g in
    let f : SubgraphNode → ℕ = λ x. words.kind_code x.kind in
    let h : MessageNode → ℕ = λ x. kind_code x.kind in
    ext_get_or 0 (map f g.nodes) (map h t.nodes) (length-map g.nodes f ∙ sym (message_nodes_count g) ∙ sym (length-map t.nodes h))
    (λ i q.
    let l : i < length g.nodes = omega (arith, length-map g.nodes f) in
    get_d_mapped f g.nodes i no_node 0 l ∙ same_code (subgraph_node_at g i).kind ∙ ap kind_code (sym (message_node_kind g i l))
    ∙ sym (get_d_mapped h t.nodes i no_message_node 0 (omega (arith, message_nodes_count g))))

-- ---- what stands in the words of a record

module _ (w : List ℕ) (at : ℕ) (labels : List ℕ) (g : Subgraph) (R : Recorded w at labels g) where
  abbrev N : ℕ
  N = length g.nodes

  abbrev E : ℕ
  E = length g.edges

  abbrev K : List ℕ
  K = codes_of g.nodes

  abbrev F : List ℕ
  F = first_slots 0 g.nodes

  abbrev S : List ℕ
  S = slots_of g.nodes

  abbrev X : List ℕ
  X = edges_of g.edges

  whole : Stands w at (N ∷ E ∷ K ++ (labels ++ (F ++ (S ++ X))))
  unfolding graph_words
  whole = R.stands

  long-kinds : length K ≡ N
  long-kinds = length-map g.nodes (λ (x : SubgraphNode). words.kind_code x.kind)

  long-firsts : length F ≡ suc N
  long-firsts = length-first_slots 0 g.nodes

  long-slots : length S ≡ 2 * E
  long-slots =
      omega (arith, length-slots 0 g.nodes, same-firsts g N (omega arith), ap (λ (n : ℕ). get_or (firsts_of (message_graph g)) n 0) (message_nodes_count g), firsts-end (message_graph g), R.consistent.directions)

  behind-counts : Stands w (at + 2) (K ++ (labels ++ (F ++ (S ++ X))))
  behind-counts = stands_back w at (N ∷ E ∷ []) (K ++ (labels ++ (F ++ (S ++ X)))) whole

  behind-labels : Stands w (at + 2 + length K + length labels) (F ++ (S ++ X))
  behind-labels = stands_back w (at + 2 + length K) labels (F ++ (S ++ X)) (stands_back w (at + 2) K (labels ++ (F ++ (S ++ X))) behind-counts)

  behind-firsts : Stands w (at + 2 + length K + length labels + length F) (S ++ X)
  behind-firsts = stands_back w (at + 2 + length K + length labels) F (S ++ X) behind-labels

  pub node_count : get_or w at 0 ≡ N
  node_count = ap (λ (k : ℕ). get_or w k 0) (let z : at ≡ at + 0 = omega arith in z) ∙ stands_at w at (N ∷ E ∷ K ++ (labels ++ (F ++ (S ++ X)))) 0 0 whole (omega arith)

  pub edge_count : get_or w (at + 1) 0 ≡ E
  edge_count = stands_at w at (N ∷ E ∷ K ++ (labels ++ (F ++ (S ++ X)))) 0 1 whole (omega arith)

  pub kinds_stand : region w (at + 2) N ≡ map (λ (x : MessageNode). kind_code x.kind) (message_graph g).nodes
  kinds_stand = ap (λ (n : ℕ). region w (at + 2) n) (sym long-kinds) ∙ stands_front w (at + 2) K (labels ++ (F ++ (S ++ X))) behind-counts ∙ kinds-recorded g

  firsts-there : Stands w (firsts_place at N) F
  firsts-there =
      ap (λ (k : ℕ). region w k (length F)) (let z : firsts_place at N ≡ at + 2 + length K + length labels = omega (arith, long-kinds, R.labelled) in z)
      ∙ stands_front w (at + 2 + length K + length labels) F (S ++ X) behind-labels

  pub firsts_stand : region w (firsts_place at N) (N + 1) ≡ firsts_of (message_graph g)
  firsts_stand = ap (λ (n : ℕ). region w (firsts_place at N) n) (let z : N + 1 ≡ length F = omega (arith, long-firsts) in z) ∙ firsts-there ∙ firsts-recorded g

  pub first_word : (n : ℕ) → n ≤ N → get_or w (firsts_place at N + n) 0 ≡ get_or (firsts_of (message_graph g)) n 0
  first_word n h = stands_at w (firsts_place at N) F 0 n firsts-there (omega (arith, long-firsts)) ∙ same-firsts g n h

  slots-there : Stands w (slots_place at N) S
  slots-there =
      ap (λ (k : ℕ). region w k (length S)) (let z : slots_place at N ≡ at + 2 + length K + length labels + length F = omega (arith, long-kinds, R.labelled, long-firsts) in z)
      ∙ stands_front w (at + 2 + length K + length labels + length F) S X behind-firsts

  slots_room : (n i : ℕ) → n < N → i < degree_of g n → before g.nodes n + i < length S
  slots_room n i h k =
      omega (arith, long-slots, R.consistent.directions, (R.consistent.node n h).room, first-is g n h)

  -- the slot of position i of node n
  pub slot_word : (n i : ℕ) → n < N → i < degree_of g n → get_or w (slots_place at N + ((node_at (message_graph g) n).first_incoming + i)) 0 ≡ edge_number_at g n i
  slot_word n i h k =
      ap (λ (f : ℕ). get_or w (slots_place at N + (f + i)) 0) (first-is g n h) ∙ stands_at w (slots_place at N) S 0 (before g.nodes n + i) slots-there (slots_room n i h k) ∙ slots_at_lem g.nodes n i h k

  edges-there : Stands w (edges_place at N E) X
  edges-there =
      ap (λ (k : ℕ). region w k (length X))
      (let z : edges_place at N E ≡ at + 2 + length K + length labels + length F + length S = omega (arith, long-kinds, R.labelled, long-firsts, long-slots) in z)
      ∙ stands_back w (at + 2 + length K + length labels + length F) S X behind-firsts

  -- word j of edge k
  pub edge_word : (k j : ℕ) → k < E → j < 5 → get_or w (edges_place at N E + (5 * k + j)) 0 ≡ get_or (edge_words (edge_at g k)) j 0
  unfolding edge_at
  edge_word k j h l = stands_at w (edges_place at N E) X 0 (5 * k + j) edges-there (omega (arith, length-edges g.edges)) ∙ edges_at g.edges k j h l

  pub record_long : length (graph_words labels g) ≡ 3 + 3 * N + 7 * E
  unfolding graph_words
  record_long =
      omega (arith, length-append K (labels ++ (F ++ (S ++ X))), length-append labels (F ++ (S ++ X)), length-append F (S ++ X), length-append S X, long-kinds, R.labelled, long-firsts, long-slots, length-edges g.edges)

  pub record_room : record_end at N E ≤ length w
  record_room = omega (arith, R.room, record_long)

-- words that are the same as far as the record goes
pub recorded-kept : (w v : List ℕ) (at : ℕ) (labels : List ℕ) (g : Subgraph) → Recorded w at labels g → length v ≡ length w
    → region v at (3 + 3 * length g.nodes + 7 * length g.edges) ≡ region w at (3 + 3 * length g.nodes + 7 * length g.edges) → Recorded v at labels g
recorded-kept w v at labels g R l e =
    let n = record_long w at labels g R in
    record {
      consistent = R.consistent;
      labelled = R.labelled;
      room = omega (arith, R.room);
      stands = ap (λ (k : ℕ). region v at k) n ∙ e ∙ ap (λ (k : ℕ). region w at k) (sym n) ∙ R.stands;
    }
