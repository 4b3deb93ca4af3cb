-- The order of direction numbers is that of end node and position, so that the queue's least direction is document 01's least (end node, position).
use Rattle.std.specs.Prelude.{ℕ, zero, suc, ◌+◌, ◌≤◌, ◌<◌, ◌≡◌, ◌↔◌, ◌⊎◌, Bool, true, false, not, List, T, ltb, length}
use Rattle.std.proofs.Common.{arith, ap, inl, inr, ltb→lt, nltb→le}
use Rattle.definition.specs.Settings.{Settings}
use Rattle.definition.specs.FactorGraph.{Bale, Node}
use Rattle.definition.specs.Components.{Subgraph}
use Rattle.definition.specs.Directions.{Direction, message_graph, message_graph_of, node_at, direction_at}
use Rattle.definition.specs.Refusals.{Buffers}
use Rattle.claims.specs.Parts.{AcceptedPart, degree_of}
use Rattle.graph_laws.specs.Consistency.{Consistent, DirectionFits, consistent}
use Rattle.graph_laws.specs.DirectionNumbers.{first_next}

-- w has the lesser end node, or the same and there the lesser position
abbrev pub ComesBefore : Direction → Direction → Type 0
ComesBefore w x = (w.end < x.end) ⊎ ((w.end ≡ x.end) × (w.start_in_end < x.start_in_end))

-- a node's directions all come before a later node's
first-later :
    (g : Subgraph) (n m : ℕ) → n < m → m < length g.nodes →
    (node_at (message_graph g) n).first_incoming + degree_of g n ≤ (node_at (message_graph g) m).first_incoming
first-later g n zero l h = absurd (let z : ⊥ = omega arith in z)
first-later g n (suc m) l h = go (ltb n m) (λ t. ltb→lt n m t) (λ t. nltb→le n m t) (λ k. first-later g n m k (omega arith))
  where
    F : ℕ → ℕ
    F k = (node_at (message_graph g) k).first_incoming

    go : (c : Bool) → (T c → n < m) → (T (not c) → m ≤ n) → (n < m → F n + degree_of g n ≤ F m) → F n + degree_of g n ≤ F (suc m)
    go true a b r = omega (arith, r (a tt), first_next g m h)
    go false a b r = let e : n ≡ m = omega (arith, b tt) in omega (arith, first_next g m h, ap F e, ap (degree_of g) e)

module _ (g : Subgraph) (C : Consistent g (message_graph g)) where
  ordered :
      (d e : ℕ) → d < length (message_graph g).directions → e < length (message_graph g).directions →
      d < e ↔ ComesBefore (direction_at (message_graph g) d) (direction_at (message_graph g) e)
  ordered d e k l = (λ h. there h, λ h. back h)
    where
      w : Direction
      w = direction_at (message_graph g) d

      x : Direction
      x = direction_at (message_graph g) e

      D : DirectionFits g (message_graph g) d (direction_at (message_graph g) d)
      D = C.direction d k

      E : DirectionFits g (message_graph g) e (direction_at (message_graph g) e)
      E = C.direction e l

      F : ℕ → ℕ
      F n = (node_at (message_graph g) n).first_incoming

      there : d < e → ComesBefore (direction_at (message_graph g) d) (direction_at (message_graph g) e)
      there h = go (ltb w.end x.end) (ltb x.end w.end) (λ t. ltb→lt _ _ t) (λ t. nltb→le _ _ t) (λ t. ltb→lt _ _ t) (λ t. nltb→le _ _ t)
        where
          go : (a b : Bool) → (T a → w.end < x.end) → (T (not a) → x.end ≤ w.end) → (T b → x.end < w.end) → (T (not b) → w.end ≤ x.end)
              → ComesBefore w x
          go true b p q r s = inl (p tt)
          go false true p q r s =
              absurd (let z : ⊥ = omega (arith, D.is_in, E.is_in, E.start_in_end_there, first-later g x.end w.end (r tt) D.end-there) in z)
          go false false p q r s = let z : w.end ≡ x.end = omega (arith, q tt, s tt) in inr (z, omega (arith, D.is_in, E.is_in, ap F z))

      back : ComesBefore (direction_at (message_graph g) d) (direction_at (message_graph g) e) → d < e
      back (inl p) = omega (arith, D.is_in, E.is_in, D.start_in_end_there, first-later g w.end x.end p E.end-there)
      back (inr p) = omega (arith, D.is_in, E.is_in, ap F p.0, p.1)

pub direction_order :
    (s : Settings) (f : Buffers) (b : Bale) (n : ℕ) (p : List Node) → AcceptedPart s f b n p →
    (d e : ℕ) → d < length (message_graph_of b p).directions → e < length (message_graph_of b p).directions →
    d < e ↔ ComesBefore (direction_at (message_graph_of b p) d) (direction_at (message_graph_of b p) e)
unfolding message_graph_of
direction_order s f b n p h = ordered _ (consistent s f b n p h)
