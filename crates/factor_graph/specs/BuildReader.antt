-- A node's edges, read from a record of a graph in words.
use Rattle.std.specs.Prelude.{◌≡◌, refl, ℕ, zero, suc, ◌+◌, ◌-◌, ◌*◌, ◌≤◌, ◌<◌, take, drop}
use Rattle.std.proofs.Math.Path.{sym, ap}
use Rattle.std.proofs.Common.{◌∙◌, subst, arith, length-drop, get_or-append-add}
use mathlib.Core.List.{List, [], ◌∷◌, ◌++◌, map, append_assoc}
use Rattle.std.proofs.Math.ListN.{length, get_or, length-append, length-map, get_or-append}
use Rattle.std.proofs.lemmas.List.{take-append-le, drop-append-le}
use Rattle.std.proofs.Math.Seq.{take-append_seam, drop-append-add}
use Rattle.definition.specs.Lists.{concat}
use Rattle.definition.specs.FactorGraph.{grade}
use Rattle.definition.specs.Components.{SubgraphNode, Subgraph}
use Rattle.list_laws.specs.Part.{region}
use Rattle.factor_graph.specs.Words.{kind_code, edge_words, first_slots, graph_words}

-- for a node that is not there
abbrev pub no_node : SubgraphNode
no_node = record { kind = grade; edges = [] }

abbrev pub edges_at : Subgraph → ℕ → List ℕ
edges_at g k = (get_or g.nodes k no_node).edges

-- the words begin with a record of a graph
pub record RecordOf (words labels : List ℕ) (g : Subgraph) : Type 0 where
  pub rest : List ℕ
  pub whole : words ≡ graph_words labels g ++ rest
  pub labelled : length labels ≡ length g.nodes

-- of some graph, that has a node of this number
pub record HasNode (words : List ℕ) (node : ℕ) : Type 0 where
  pub labels : List ℕ
  pub graph : Subgraph
  pub record_of : RecordOf words labels graph
  pub there : node < length graph.nodes

-- ---- where a node's list stands

abbrev lists : List SubgraphNode → List ℕ
lists xs = concat (map (λ (x : SubgraphNode). x.edges) xs)

unfoldable pub offset : List SubgraphNode → ℕ → ℕ
offset [] k = 0
offset (x ∷ xs) zero = 0
offset (x ∷ xs) (suc k) = length x.edges + offset xs k

first-at : (f : ℕ) (xs : List SubgraphNode) (k : ℕ) → k < length xs → get_or (first_slots f xs) k 0 ≡ f + offset xs k
unfolding offset
first-at f [] k h = absurd (let z : ⊥ = omega arith in z)
first-at f (x ∷ xs) zero h = omega arith
first-at f (x ∷ xs) (suc k) h = first-at (f + length x.edges) xs k (omega arith) ∙ omega arith

head_of : (f : ℕ) (xs : List SubgraphNode) → get_or (first_slots f xs) 0 0 ≡ f
head_of f [] = refl
head_of f (x ∷ xs) = refl

end-at : (f : ℕ) (xs : List SubgraphNode) (k : ℕ) → k < length xs → get_or (first_slots f xs) (k + 1) 0 ≡ f + offset xs k + length (get_or xs k no_node).edges
unfolding offset
end-at f [] k h = absurd (let z : ⊥ = omega arith in z)
end-at f (x ∷ xs) zero h = head_of (f + length x.edges) xs ∙ omega arith
end-at f (x ∷ xs) (suc k) h =
    let a : suc k + 1 ≡ suc (k + 1) = omega arith in
    ap (λ (i : ℕ). get_or (f ∷ first_slots (f + length x.edges) xs) i 0) a ∙ end-at (f + length x.edges) xs k (omega arith) ∙ omega arith

list_there : (xs : List SubgraphNode) (k : ℕ) → k < length xs → offset xs k + length (get_or xs k no_node).edges ≤ length (lists xs)
unfolding offset
list_there [] k h = absurd (let z : ⊥ = omega arith in z)
list_there (x ∷ xs) zero h = omega (arith, length-append x.edges (lists xs))
list_there (x ∷ xs) (suc k) h = omega (arith, length-append x.edges (lists xs), list_there xs k (omega arith))

list_at : (xs : List SubgraphNode) (k : ℕ) → k < length xs → take (length (get_or xs k no_node).edges) (drop (offset xs k) (lists xs)) ≡ (get_or xs k no_node).edges
unfolding offset
list_at [] k h = absurd (let z : ⊥ = omega arith in z)
list_at (x ∷ xs) zero h = take-append_seam x.edges (lists xs)
list_at (x ∷ xs) (suc k) h = ap (take (length (get_or xs k no_node).edges)) (drop-append-add x.edges (lists xs) (offset xs k)) ∙ list_at xs k (omega arith)

length-firsts : (f : ℕ) (xs : List SubgraphNode) → length (first_slots f xs) ≡ suc (length xs)
length-firsts f [] = refl
length-firsts f (x ∷ xs) = ap suc (length-firsts (f + length x.edges) xs)

-- ---- in the words

module _ (words labels : List ℕ) (g : Subgraph) (r : RecordOf words labels g) where
  abbrev n : ℕ
  n = length g.nodes

  abbrev firsts : List ℕ
  firsts = first_slots 0 g.nodes

  kinds : List ℕ
  kinds = map (λ (x : SubgraphNode). kind_code x.kind) g.nodes

  front : List ℕ
  front = n ∷ length g.edges ∷ kinds ++ labels

  back : List ℕ
  back = concat (map edge_words g.edges) ++ r.rest

  split : words ≡ front ++ (firsts ++ (lists g.nodes ++ back))
  unfolding graph_words front back kinds
  split =
      let e = concat (map edge_words g.edges) in
      r.whole
      ∙ ap (λ (l : List ℕ). n ∷ length g.edges ∷ l)
      (append_assoc kinds (labels ++ (firsts ++ (lists g.nodes ++ e))) r.rest
      ∙ ap (λ (l : List ℕ). kinds ++ l)
      (append_assoc labels (firsts ++ (lists g.nodes ++ e)) r.rest
      ∙ ap (λ (l : List ℕ). labels ++ l) (append_assoc firsts (lists g.nodes ++ e) r.rest ∙ ap (λ (l : List ℕ). firsts ++ l) (append_assoc (lists g.nodes) e r.rest)))
      ∙ sym (append_assoc kinds labels (firsts ++ (lists g.nodes ++ (e ++ r.rest)))))

  front_length : length front ≡ 2 + 2 * n
  unfolding front kinds
  front_length = omega (arith, length-append kinds labels, length-map g.nodes (λ (x : SubgraphNode). kind_code x.kind), r.labelled)

  words-length : 3 + 3 * n + length (lists g.nodes) ≤ length words
  words-length =
      omega
      (arith, ap length split, length-append front (firsts ++ (lists g.nodes ++ back)), length-append firsts (lists g.nodes ++ back), length-append (lists g.nodes) back, front_length, length-firsts 0 g.nodes)

  pub node_count : get_or words 0 0 ≡ n
  unfolding front
  node_count = ap (λ (l : List ℕ). get_or l 0 0) split

  first_word : (k : ℕ) → k ≤ n → get_or words (2 + 2 * n + k) 0 ≡ get_or firsts k 0
  first_word k h =
      ap (λ (l : List ℕ). get_or l (2 + 2 * n + k) 0) split
      ∙ ap (λ (i : ℕ). get_or (front ++ (firsts ++ (lists g.nodes ++ back))) (i + k) 0) (sym front_length)
      ∙ get_or-append-add front (firsts ++ (lists g.nodes ++ back)) k 0
      ∙ get_or-append firsts (lists g.nodes ++ back) 0 k (omega (arith, length-firsts 0 g.nodes))

  module _ (k : ℕ) (h : k < n) where
    abbrev own : List ℕ
    own = edges_at g k

    list_first : get_or words (2 + 2 * n + k) 0 ≡ offset g.nodes k
    list_first = first_word k (omega arith) ∙ first-at 0 g.nodes k h ∙ omega arith

    list_end : get_or words (2 + 2 * n + k + 1) 0 ≡ offset g.nodes k + length own
    list_end =
        let a : 2 + 2 * n + k + 1 ≡ 2 + 2 * n + (k + 1) = omega arith in
        ap (λ (i : ℕ). get_or words i 0) a ∙ first_word (k + 1) (omega arith) ∙ end-at 0 g.nodes k h ∙ omega arith

    list_room : 3 + 3 * n + (offset g.nodes k + length own) ≤ length words
    list_room = omega (arith, words-length, list_there g.nodes k h)

    list_is : region words (3 + 3 * n + offset g.nodes k) (length own) ≡ own
    list_is =
        let lf = length-firsts 0 g.nodes in
        let i : 3 + 3 * n + offset g.nodes k ≡ length front + (length firsts + offset g.nodes k) = omega (arith, front_length, lf) in
        let o = offset g.nodes k in
        ap (λ (l : List ℕ). region l (3 + 3 * n + o) (length own)) split
        ∙ ap (λ (j : ℕ). region (front ++ (firsts ++ (lists g.nodes ++ back))) j (length own)) i
        ∙ ap (take (length own)) (drop-append-add front (firsts ++ (lists g.nodes ++ back)) (length firsts + o) ∙ drop-append-add firsts (lists g.nodes ++ back) o ∙ drop-append-le o (lists g.nodes) back (omega (arith, list_there g.nodes k h)))
        ∙ take-append-le (length own) (drop o (lists g.nodes)) back (rw length-drop (omega (arith, list_there g.nodes k h)))
        ∙ list_at g.nodes k h

-- ---- as the code reads them

abbrev pub first_at : List ℕ → ℕ → ℕ
first_at words node = 2 + 2 * get_or words 0 0 + node

abbrev pub slots_at : List ℕ → ℕ
slots_at words = 3 + 3 * get_or words 0 0

pub record Readable (words : List ℕ) (node : ℕ) : Type 0 where
  pub inside : first_at words node + 1 < length words
  pub order : get_or words (first_at words node) 0 ≤ get_or words (first_at words node + 1) 0
  pub room : slots_at words + get_or words (first_at words node + 1) 0 ≤ length words
  pub slots : slots_at words ≤ length words

-- the same with any number for the count of nodes
record Reads (words : List ℕ) (node x : ℕ) : Type 0 where
  inside : 2 + 2 * x + node + 1 < length words
  order : get_or words (2 + 2 * x + node) 0 ≤ get_or words (2 + 2 * x + node + 1) 0
  room : 3 + 3 * x + get_or words (2 + 2 * x + node + 1) 0 ≤ length words

pub readable : (words : List ℕ) (node : ℕ) → HasNode words node → Readable words node
readable words node h =
    let g = h.graph in
    let r = h.record_of in
    let f = list_first words h.labels g r node h.there in
    let e = list_end words h.labels g r node h.there in
    let m = list_room words h.labels g r node h.there in
    let q : Reads words node (get_or words 0 0) =
    subst (Reads words node) (sym (node_count words h.labels g r))
    (record { inside = omega (arith, m, h.there); order = omega (arith, f, e); room = omega (arith, e, m) })
    in
    record { inside = q.inside; order = q.order; room = q.room; slots = omega (arith, q.room) }

-- what is handed out is the node's list
pub read_is : (words : List ℕ) (node : ℕ) → HasNode words node → (labels : List ℕ) (g : Subgraph) → RecordOf words labels g →
    take (slots_at words + get_or words (first_at words node + 1) 0 - (slots_at words + get_or words (first_at words node) 0)) (drop (slots_at words + get_or words (first_at words node) 0) words) ≡ edges_at g node
read_is words node h labels g r =
    let c : get_or words 0 0 ≡ length g.nodes = node_count words labels g r in
    let c' : get_or words 0 0 ≡ length h.graph.nodes = node_count words h.labels h.graph h.record_of in
    let l : node < length g.nodes = omega (arith, h.there) in
    let f = list_first words labels g r node l in
    let e = list_end words labels g r node l in
    let n = length g.nodes in
    let o = offset g.nodes node in
    let k = length (edges_at g node) in
    let z : 3 + 3 * n + (o + k) - (3 + 3 * n + o) ≡ k = omega arith in
    ap (λ (x : ℕ). take (3 + 3 * x + get_or words (2 + 2 * x + node + 1) 0 - (3 + 3 * x + get_or words (2 + 2 * x + node) 0)) (drop (3 + 3 * x + get_or words (2 + 2 * x + node) 0) words)) c
    ∙ ap (λ (x : ℕ). take (3 + 3 * n + get_or words (2 + 2 * n + node + 1) 0 - (3 + 3 * n + x)) (drop (3 + 3 * n + x) words)) f
    ∙ ap (λ (x : ℕ). take (3 + 3 * n + x - (3 + 3 * n + o)) (drop (3 + 3 * n + o) words)) e
    ∙ ap (λ (x : ℕ). take x (drop (3 + 3 * n + o) words)) z
    ∙ list_is words labels g r node l
