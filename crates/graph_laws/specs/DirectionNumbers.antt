-- The message graph of any local graph, by number: the first directions are running totals of the degrees, and each direction is an edge of its end's list.
use Prim.Native.Nat.{ℕ, zero, suc, ◌+◌, ◌<◌}
use native.Mathlib.Omega.{arith}
use Rattle.std.specs.Prelude.{◌≡◌}
use Rattle.std.proofs.Math.Path.{refl, ap}
use Rattle.std.proofs.Common.{◌∙◌}
use mathlib.Core.List.{List, [], ◌∷◌, ◌++◌, map}
use Rattle.std.proofs.Math.ListN.{length, get_or, length-map, length-append}
use Rattle.definition.specs.Components.{Subgraph, SubgraphNode}
use Rattle.definition.specs.Directions.{Direction, MessageNode, no_message_node, no_direction, edge_at, direction_to, directions_to, firsts_incoming, direction_from, message_nodes_from, message_graph, node_at, direction_at}
use Rattle.graph_laws.specs.ByNames.{get_d_front, get_d_back}
use Rattle.claims.specs.Parts.{no_node, subgraph_node_at, degree_of, edge_number_at}
use Rattle.graph_laws.specs.Consistency.{incoming_at}

pub get_d_mapped : {X Y : Type 0} (f : X → Y) (xs : List X) (i : ℕ) (e : X) (d : Y) → i < length xs → get_or (map f xs) i d ≡ f (get_or xs i e)
get_d_mapped f [] i e d h = absurd (let z : ⊥ = omega arith in z)
get_d_mapped f (x ∷ xs) zero e d h = refl
get_d_mapped f (x ∷ xs) (suc i) e d h = get_d_mapped f xs i e d (omega arith)

-- the degrees of the nodes before node n, in all
abbrev pub before : List SubgraphNode → ℕ → ℕ
before [] n = 0
before (x ∷ xs) zero = 0
before (x ∷ xs) (suc n) = length x.edges + before xs n

firsts_at : (f : ℕ) (xs : List SubgraphNode) (n : ℕ) → n < length xs → get_or (firsts_incoming f xs) n 0 ≡ f + before xs n
unfolding firsts_incoming
firsts_at f [] n h = absurd (let z : ⊥ = omega arith in z)
firsts_at f (x ∷ xs) zero h = omega arith
firsts_at f (x ∷ xs) (suc n) h = firsts_at (f + length x.edges) xs n (omega arith) ∙ omega arith

before-next : (xs : List SubgraphNode) (n : ℕ) → suc n < length xs → before xs (suc n) ≡ before xs n + length (get_or xs n no_node).edges
before-next [] n h = absurd (let z : ⊥ = omega arith in z)
before-next (x ∷ []) n h = absurd (let z : ⊥ = omega arith in z)
before-next (x ∷ y ∷ xs) zero h = omega arith
before-next (x ∷ y ∷ xs) (suc n) h = let r = before-next (y ∷ xs) n (omega arith) in omega (arith, r)

module _ (g : Subgraph) where
  message_nodes_from_lem : (fs : List ℕ) (k : ℕ) (xs : List SubgraphNode) → length (message_nodes_from g fs k xs) ≡ length xs
  unfolding message_nodes_from
  message_nodes_from_lem fs k [] = refl
  message_nodes_from_lem fs k (x ∷ xs) = ap suc (message_nodes_from_lem fs (suc k) xs)

  message_node_from : (fs : List ℕ) (k : ℕ) (xs : List SubgraphNode) (n : ℕ) → n < length xs
      → get_or (message_nodes_from g fs k xs) n no_message_node
      ≡ record { kind = (get_or xs n no_node).kind; first_incoming = get_or fs (k + n) 0; outgoing = map (λ (e : ℕ). direction_from fs (k + n) (edge_at g e)) (get_or xs n no_node).edges }
  unfolding message_nodes_from
  message_node_from fs k [] n h = absurd (let z : ⊥ = omega arith in z)
  message_node_from fs k (x ∷ xs) zero h =
      ap (λ (m : ℕ). record { kind = x.kind; first_incoming = get_or fs m 0; outgoing = map (λ (e : ℕ). direction_from fs m (edge_at g e)) x.edges }) (let z : k ≡ k + 0 = omega arith in z)
  message_node_from fs k (x ∷ xs) (suc n) h =
      message_node_from fs (suc k) xs n (omega arith)
      ∙ ap (λ (m : ℕ). record { kind = (get_or xs n no_node).kind; first_incoming = get_or fs m 0; outgoing = map (λ (e : ℕ). direction_from fs m (edge_at g e)) (get_or xs n no_node).edges })
      (let z : suc k + n ≡ k + suc n = omega arith in z)

  row-length : (k : ℕ) (x : SubgraphNode) (xs : List SubgraphNode) → length (directions_to g k (x ∷ xs)) ≡ length x.edges + length (directions_to g (suc k) xs)
  unfolding directions_to
  row-length k x xs = length-append (map (λ (e : ℕ). direction_to k (edge_at g e)) x.edges) (directions_to g (suc k) xs) ∙ ap (λ (n : ℕ). n + length (directions_to g (suc k) xs)) (length-map x.edges (λ (e : ℕ). direction_to k (edge_at g e)))

  no_rows : (k : ℕ) → length (directions_to g k []) ≡ 0
  unfolding directions_to
  no_rows k = refl

  last-from : (k : ℕ) (xs : List SubgraphNode) (n : ℕ) → suc n ≡ length xs → before xs n + length (get_or xs n no_node).edges ≡ length (directions_to g k xs)
  last-from k [] n h = absurd (let z : ⊥ = omega arith in z)
  last-from k (x ∷ []) zero h = omega (arith, row-length k x [], no_rows (suc k))
  last-from k (x ∷ []) (suc n) h = absurd (let z : ⊥ = omega arith in z)
  last-from k (x ∷ y ∷ xs) zero h = absurd (let z : ⊥ = omega arith in z)
  last-from k (x ∷ y ∷ xs) (suc n) h = let r = last-from (suc k) (y ∷ xs) n (omega arith) in omega (arith, r, row-length k x (y ∷ xs))

  inward_from : (k : ℕ) (xs : List SubgraphNode) (n i : ℕ) → n < length xs → i < length (get_or xs n no_node).edges
      → get_or (directions_to g k xs) (before xs n + i) no_direction ≡ direction_to (k + n) (edge_at g (get_or (get_or xs n no_node).edges i 0))
  unfolding directions_to
  inward_from k [] n i h l = absurd (let z : ⊥ = omega arith in z)
  inward_from k (x ∷ xs) zero i h l =
      let f : ℕ → Direction = λ e. direction_to k (edge_at g e) in
      ap (λ (j : ℕ). get_or (map f x.edges ++ directions_to g (suc k) xs) j no_direction) (let z : 0 + i ≡ i = omega arith in z)
      ∙ get_d_front (map f x.edges) (directions_to g (suc k) xs) i no_direction (omega (arith, length-map x.edges f))
      ∙ get_d_mapped f x.edges i 0 no_direction l ∙ ap (λ (m : ℕ). direction_to m (edge_at g (get_or x.edges i 0))) (let z : k ≡ k + 0 = omega arith in z)
  inward_from k (x ∷ xs) (suc n) i h l =
      let f : ℕ → Direction = λ e. direction_to k (edge_at g e) in
      ap (λ (j : ℕ). get_or (map f x.edges ++ directions_to g (suc k) xs) j no_direction)
      (let z : length x.edges + before xs n + i ≡ length (map f x.edges) + (before xs n + i) = omega (arith, length-map x.edges f) in z)
      ∙ get_d_back (map f x.edges) (directions_to g (suc k) xs) (before xs n + i) no_direction
      ∙ inward_from (suc k) xs n i (omega arith) l
      ∙ ap (λ (m : ℕ). direction_to m (edge_at g (get_or (get_or xs n no_node).edges i 0))) (let z : suc k + n ≡ k + suc n = omega arith in z)

  -- ---- read by number
  pub message_nodes_count : length (message_graph g).nodes ≡ length g.nodes
  unfolding message_graph
  message_nodes_count = message_nodes_from_lem (firsts_incoming 0 g.nodes) 0 g.nodes

  module _ (n : ℕ) (l : n < length g.nodes) where
    message_node_is : node_at (message_graph g) n ≡ record { kind = (subgraph_node_at g n).kind; first_incoming = get_or (firsts_incoming 0 g.nodes) (0 + n) 0; outgoing = map (λ (e : ℕ). direction_from (firsts_incoming 0 g.nodes) (0 + n) (edge_at g e)) (subgraph_node_at g n).edges }
    unfolding message_graph
    message_node_is = message_node_from (firsts_incoming 0 g.nodes) 0 g.nodes n l

    pub message_node_kind : (node_at (message_graph g) n).kind ≡ (subgraph_node_at g n).kind
    message_node_kind = ap (λ (x : MessageNode). x.kind) message_node_is

    -- the first direction of a node: so many as the nodes before it have positions
    pub first-is : (node_at (message_graph g) n).first_incoming ≡ before g.nodes n
    first-is =
        ap (λ (x : MessageNode). x.first_incoming) message_node_is ∙ ap (λ (m : ℕ). get_or (firsts_incoming 0 g.nodes) m 0) (let z : 0 + n ≡ n = omega arith in z) ∙ firsts_at 0 g.nodes n l ∙ omega arith

    pub outs_count : length (node_at (message_graph g) n).outgoing ≡ degree_of g n
    outs_count = ap (λ (x : MessageNode). length x.outgoing) message_node_is ∙ length-map (subgraph_node_at g n).edges (λ (e : ℕ). direction_from (firsts_incoming 0 g.nodes) (0 + n) (edge_at g e))

    -- the direction at a position is the edge there, as seen from the node
    pub in_inward : (i : ℕ) → i < degree_of g n → direction_at (message_graph g) (incoming_at (message_graph g) n i) ≡ direction_to n (edge_at g (edge_number_at g n i))
    unfolding message_graph
    in_inward i j =
        ap (λ (m : ℕ). direction_at (message_graph g) (m + i)) first-is ∙ inward_from 0 g.nodes n i l j ∙ ap (λ (m : ℕ). direction_to m (edge_at g (edge_number_at g n i))) (let z : 0 + n ≡ n = omega arith in z)

  -- a running total
  pub first_next : (n : ℕ) → suc n < length g.nodes → (node_at (message_graph g) (suc n)).first_incoming ≡ (node_at (message_graph g) n).first_incoming + degree_of g n
  first_next n l = omega (arith, first-is (suc n) l, first-is n (omega arith), before-next g.nodes n l)

  pub first-zero : 0 < length g.nodes → (node_at (message_graph g) 0).first_incoming ≡ 0
  first-zero l = first-is 0 l ∙ none g.nodes
    where
      none : (xs : List SubgraphNode) → before xs 0 ≡ 0
      none [] = refl
      none (x ∷ xs) = refl

  pub first-last : (n : ℕ) → suc n ≡ length g.nodes → (node_at (message_graph g) n).first_incoming + degree_of g n ≡ length (message_graph g).directions
  unfolding message_graph
  first-last n h = ap (λ (m : ℕ). m + degree_of g n) (first-is n (omega arith)) ∙ last-from 0 g.nodes n h
