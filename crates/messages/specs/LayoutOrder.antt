-- A message graph whose nodes' directions follow each other, node by node: so what stands at a position of a node stands behind the node's first in a row.
use Rattle.std.specs.Prelude.{ℕ, zero, suc, ◌+◌, ◌≤◌, ◌<◌, ◌≡◌, refl, List, [], ◌∷◌, ◌++◌, map, length}
use Rattle.std.proofs.Math.Decide.{dec_lt}
use Rattle.std.proofs.Common.{arith, sym, ◌∙◌, length-append, get_or-append-add}
use Rattle.std.proofs.Math.Path.{ap}
use Rattle.std.proofs.Math.Logic.{by_cases}
use Rattle.std.proofs.Math.ListN.{get_or, get_or-append, get_or-eq_default}
use Rattle.std.proofs.lemmas.List.{length-map}
use Rattle.std.proofs.Math.Seq.{get_or-append_seam}
use Rattle.definition.specs.Lists.{concat}
use Rattle.definition.specs.FactorGraph.{Bale, Node}
use Rattle.definition.specs.Components.{Subgraph, SubgraphNode, subgraph_of}
use Rattle.definition.specs.Directions.{MessageNode, MessageGraph, no_message_node, directions_to, message_graph, message_graph_of, node_at}
use Rattle.graph_laws.specs.DirectionNumbers.{get_d_mapped, message_nodes_count, outs_count, first_next, first-zero, first-last}
use Rattle.messages.specs.Layout.{firsts_of, outs_of}

-- ---- the row of firsts

pub firsts_at : (t : MessageGraph) (n : ℕ) → n < length t.nodes → get_or (firsts_of t) n 0 ≡ (node_at t n).first_incoming
unfolding firsts_of
firsts_at t n h =
    get_or-append (map (λ (x : MessageNode). x.first_incoming) t.nodes) (length t.directions ∷ []) 0 n (omega (arith, length-map t.nodes (λ (x : MessageNode). x.first_incoming)))
    ∙ get_d_mapped (λ (x : MessageNode). x.first_incoming) t.nodes n no_message_node 0 h

pub firsts-end : (t : MessageGraph) → get_or (firsts_of t) (length t.nodes) 0 ≡ length t.directions
unfolding firsts_of
firsts-end t =
    ap (λ (n : ℕ). get_or (firsts_of t) n 0) (sym (length-map t.nodes (λ (x : MessageNode). x.first_incoming)))
    ∙ get_or-append_seam (map (λ (x : MessageNode). x.first_incoming) t.nodes) (length t.directions) [] 0

pub length-firsts : (t : MessageGraph) → length (firsts_of t) ≡ length t.nodes + 1
unfolding firsts_of
length-firsts t =
    length-append (map (λ (x : MessageNode). x.first_incoming) t.nodes) (length t.directions ∷ []) ∙ omega (arith, length-map t.nodes (λ (x : MessageNode). x.first_incoming))

-- each node's directions begin where those of the node before it end
pub record InOrder (t : MessageGraph) : Type 0 where
  pub from_zero : get_or (firsts_of t) 0 0 ≡ 0
  pub after : (n : ℕ) → n < length t.nodes → get_or (firsts_of t) (suc n) 0 ≡ get_or (firsts_of t) n 0 + length (node_at t n).outgoing

no_directions : (g : Subgraph) (xs : List SubgraphNode) → length xs ≡ 0 → length (directions_to g 0 xs) ≡ 0
unfolding directions_to
no_directions g [] h = refl
no_directions g (x ∷ xs) h = absurd (let z : ⊥ = omega arith in z)

none-there : (g : Subgraph) → length g.nodes ≡ 0 → length (message_graph g).directions ≡ 0
unfolding message_graph
none-there g h = no_directions g g.nodes h

-- so it is in every graph that is made of a component
pub in_order : (g : Subgraph) → InOrder (message_graph g)
in_order g =
    let t = message_graph g in
    let c : length t.nodes ≡ length g.nodes = message_nodes_count g in
    record {
      from_zero =
          by_cases (dec_lt 0 (length t.nodes)) (λ (h : 0 < length t.nodes). firsts_at t 0 h ∙ first-zero g (omega arith))
          (λ h. ap (λ (n : ℕ). get_or (firsts_of t) n 0) (let z : 0 ≡ length t.nodes = omega arith in z) ∙ firsts-end t ∙ none-there g (omega arith));
      after =
          (λ n h.
          by_cases (dec_lt (suc n) (length t.nodes))
          (λ (k : suc n < length t.nodes). omega (arith, firsts_at t (suc n) k, firsts_at t n h, first_next g n (omega arith), outs_count g n (omega arith)))
          (λ k.
          let e = ap (λ (m : ℕ). get_or (firsts_of t) m 0) (let z : suc n ≡ length t.nodes = omega arith in z) in
          omega (arith, e, firsts-end t, firsts_at t n h, first-last g n (omega arith), outs_count g n (omega arith))));
    }

pub in_order_of : (b : Bale) (p : List Node) → InOrder (message_graph_of b p)
unfolding message_graph_of
in_order_of b p = in_order (subgraph_of b p)

module _ (t : MessageGraph) (O : InOrder t) where
  pub firsts_mono : (m n : ℕ) → m ≤ n → n ≤ length t.nodes → get_or (firsts_of t) m 0 ≤ get_or (firsts_of t) n 0
  firsts_mono m zero h k = omega (arith, ap (λ (i : ℕ). get_or (firsts_of t) i 0) (let z : m ≡ 0 = omega arith in z))
  firsts_mono m (suc n) h k =
      by_cases (dec_lt m (suc n)) (λ (l : m < suc n). omega (arith, firsts_mono m n (omega arith) (omega arith), O.after n k))
      (λ l. omega (arith, ap (λ (i : ℕ). get_or (firsts_of t) i 0) (let z : m ≡ suc n = omega arith in z)))

  -- a node's directions are there (a number that no node has has none)
  pub inside : (n : ℕ) → (node_at t n).first_incoming + length (node_at t n).outgoing ≤ length t.directions
  inside n =
      by_cases (dec_lt n (length t.nodes))
      (λ (h : n < length t.nodes). omega (arith, firsts_at t n h, O.after n h, firsts_mono (suc n) (length t.nodes) h (omega arith), firsts-end t))
      (λ h. outside (node_at t n) (get_or-eq_default t.nodes no_message_node (let z : length t.nodes ≤ n = omega arith in z)))
    where
      outside : (x : MessageNode) → x ≡ no_message_node → x.first_incoming + length x.outgoing ≤ length t.directions
      outside x e = omega (arith, ap (λ (y : MessageNode). y.first_incoming) e, ap (λ (y : MessageNode). length y.outgoing) e)

-- ---- the row of outgoing directions

-- how many the first n nodes have
abbrev outs_before : List MessageNode → ℕ → ℕ
outs_before [] n = 0
outs_before (x ∷ xs) zero = 0
outs_before (x ∷ xs) (suc n) = length x.outgoing + outs_before xs n

outs_before-zero : (xs : List MessageNode) → outs_before xs 0 ≡ 0
outs_before-zero [] = refl
outs_before-zero (x ∷ xs) = refl

outs_before-suc : (xs : List MessageNode) (n : ℕ) → n < length xs → outs_before xs (suc n) ≡ outs_before xs n + length (get_or xs n no_message_node).outgoing
outs_before-suc [] n h = absurd (let z : ⊥ = omega arith in z)
outs_before-suc (x ∷ xs) zero h = omega (arith, outs_before-zero xs)
outs_before-suc (x ∷ xs) (suc n) h = omega (arith, outs_before-suc xs n (omega arith))

abbrev outs_over : List MessageNode → List ℕ
outs_over xs = concat (map (λ (x : MessageNode). x.outgoing) xs)

outs_over_count : (xs : List MessageNode) → length (outs_over xs) ≡ outs_before xs (length xs)
outs_over_count [] = refl
outs_over_count (x ∷ xs) = length-append x.outgoing (outs_over xs) ∙ omega (arith, outs_over_count xs)

outs_over-at : (xs : List MessageNode) (n i : ℕ) → i < length (get_or xs n no_message_node).outgoing → get_or (outs_over xs) (outs_before xs n + i) 0 ≡ get_or (get_or xs n no_message_node).outgoing i 0
outs_over-at [] n i h = absurd (let z : ⊥ = omega arith in z)
outs_over-at (x ∷ xs) zero i h = ap (λ (k : ℕ). get_or (x.outgoing ++ outs_over xs) k 0) (let z : 0 + i ≡ i = omega arith in z) ∙ get_or-append x.outgoing (outs_over xs) 0 i h
outs_over-at (x ∷ xs) (suc n) i h =
    ap (λ (k : ℕ). get_or (x.outgoing ++ outs_over xs) k 0) (let z : length x.outgoing + outs_before xs n + i ≡ length x.outgoing + (outs_before xs n + i) = omega arith in z)
    ∙ get_or-append-add x.outgoing (outs_over xs) (outs_before xs n + i) 0 ∙ outs_over-at xs n i h

module _ (t : MessageGraph) (O : InOrder t) where
  firsts-before : (n : ℕ) → n ≤ length t.nodes → get_or (firsts_of t) n 0 ≡ outs_before t.nodes n
  firsts-before zero h = O.from_zero ∙ sym (outs_before-zero t.nodes)
  firsts-before (suc n) h = omega (arith, O.after n h, firsts-before n (omega arith), outs_before-suc t.nodes n h)

  pub length_outs : length (outs_of t) ≡ length t.directions
  unfolding outs_of
  length_outs = omega (arith, outs_over_count t.nodes, firsts-before (length t.nodes) (omega arith), firsts-end t)

  pub outs_at : (n i : ℕ) → n < length t.nodes → i < length (node_at t n).outgoing → get_or (outs_of t) ((node_at t n).first_incoming + i) 0 ≡ get_or (node_at t n).outgoing i 0
  unfolding outs_of
  outs_at n i h k =
      ap (λ (m : ℕ). get_or (outs_of t) (m + i) 0) (sym (firsts_at t n h) ∙ firsts-before n (omega arith)) ∙ outs_over-at t.nodes n i k
