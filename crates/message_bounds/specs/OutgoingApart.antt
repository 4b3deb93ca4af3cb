-- No node of a part sends twice along one direction.
use Rattle.std.specs.Prelude.{◌≡◌, refl, Bool, true, false, List, [], ◌∷◌, ◌++◌, ℕ, zero, suc, ◌<◌, T, eqb, ltb, length, get_or, take, drop}
use Rattle.std.proofs.Common.{sym, subst, arith, ltb→lt}
use Rattle.std.proofs.Math.ListN.{get_or-eq_default}
use Rattle.definition.specs.Lists.{mem, index_of}
use Rattle.definition.specs.Settings.{Settings}
use Rattle.definition.specs.FactorGraph.{Bale, Node}
use Rattle.definition.specs.Components.{subgraph_of}
use Rattle.definition.specs.Directions.{MessageNode, MessageGraph, message_graph_of, node_at, no_message_node}
use Rattle.definition.specs.Run.{other_outgoing}
use Rattle.definition.specs.Refusals.{Buffers}
use Rattle.claims.specs.Parts.{AcceptedPart}
use Rattle.graph_laws.specs.Bools.{not-true, no_ltb, eqb_sound, eqb_same, or_no, no_or}
use Rattle.graph_laws.specs.Ranks.{NoDup, index_lt, get_d_index}
use Rattle.graph_laws.specs.Consistency.{Consistent, NodeFits, consistent, out_once}

-- ---- a list whose entries differ from place to place has none twice
nodup_by-place : (l : List ℕ) → ((i j : ℕ) → i < length l → j < length l → get_or l i 0 ≡ get_or l j 0 → i ≡ j) → NoDup eqb l
nodup_by-place [] f = tt
nodup_by-place (x ∷ l) f = (
  not-true (mem eqb x l) (λ m. let k = index_of eqb x l in let n : k < length l = index_lt eqb eqb_sound eqb_same x l m in let z : 0 ≡ suc k = f 0 (suc k) (omega arith) (omega arith) (sym (get_d_index eqb eqb_sound eqb_same 0 x l m)) in omega arith),
  nodup_by-place l (λ i j p q e. let z : suc i ≡ suc j = f (suc i) (suc j) (omega arith) (omega arith) e in omega arith),
)

-- ---- a node's directions without one of them
others_apart : (i : ℕ) (os : List ℕ) → NoDup eqb os → NoDup eqb (take i os ++ drop (suc i) os)
others_apart zero [] n = tt
others_apart (suc i) [] n = tt
others_apart zero (o ∷ os) n = n.1
others_apart (suc i) (o ∷ os) n = (not_among i os n.0, others_apart i os n.1)
  where
    not_among : (i : ℕ) (os : List ℕ) → mem eqb o os ≡ false → mem eqb o (take i os ++ drop (suc i) os) ≡ false
    not_among zero [] h = refl
    not_among (suc i) [] h = refl
    not_among zero (x ∷ os) h = (or_no (eqb o x) (mem eqb o os) h).1
    not_among (suc i) (x ∷ os) h = let r = or_no (eqb o x) (mem eqb o os) h in no_or (eqb o x) (mem eqb o (take i os ++ drop (suc i) os)) r.0 (not_among i os r.1)

-- ---- the parts of an accepted bale
abbrev pub Apart : MessageGraph → Type 0
Apart t = (n i : ℕ) → NoDup eqb (other_outgoing i (node_at t n).outgoing)

module _ (s : Settings) (f : Buffers) (b : Bale) (k : ℕ) (p : List Node) (h : AcceptedPart s f b k p) where
  abbrev its : MessageGraph
  its = message_graph_of b p

  outgoing_apart : (n : ℕ) → NoDup eqb (node_at its n).outgoing
  outgoing_apart n = go (ltb n (length its.nodes)) refl
    where
      C : Consistent (subgraph_of b p) its
      C = consistent s f b k p h

      there : n < length its.nodes → NoDup eqb (node_at its n).outgoing
      there l =
          let m : n < length (subgraph_of b p).nodes = subst (λ (x : ℕ). n < x) C.nodes l in
          let F : NodeFits (subgraph_of b p) its n = C.node n m in
          nodup_by-place (node_at its n).outgoing
          (λ i j u v e. (out_once (subgraph_of b p) its C n i n j m (subst (λ (x : ℕ). i < x) F.outgoing u) m (subst (λ (x : ℕ). j < x) F.outgoing v) e).1)

      go : (c : Bool) → ltb n (length its.nodes) ≡ c → NoDup eqb (node_at its n).outgoing
      go true e = there (ltb→lt n (length its.nodes) (subst T (sym e) tt))
      go false e =
          subst (λ (x : MessageNode). NoDup eqb x.outgoing) (sym (get_or-eq_default its.nodes no_message_node (no_ltb n (length its.nodes) e))) tt

  pub part_outgoing_apart : Apart its
  unfolding other_outgoing
  part_outgoing_apart n i = others_apart i (node_at its n).outgoing (outgoing_apart n)
