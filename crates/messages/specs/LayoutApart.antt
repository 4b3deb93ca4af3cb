-- No direction ends where it starts, so what a node sends does not touch what it holds: a node's part of a row stays as it was while the node sends into that row.
use Rattle.std.specs.Prelude.{ℕ, zero, suc, ◌+◌, ◌*◌, ◌≤◌, ◌<◌, ◌≡◌, refl, true, false, ◌⊎◌, List, [], ◌∷◌, eqb, Float, length}
use Rattle.std.proofs.Math.Decide.{dec_lt}
use Rattle.std.proofs.Common.{arith, sym, ap, ◌∙◌, true≢false, inl, inr, ⊎_elim}
use Rattle.std.proofs.Math.Logic.{by_cases}
use Rattle.std.specs.Float.{nan}
use Rattle.definition.specs.Lists.{mem}
use Rattle.definition.specs.Vectors.{Message}
use Rattle.definition.specs.Components.{Subgraph}
use Rattle.definition.specs.Directions.{Direction, MessageGraph, edge_at, node_at, direction_at, message_at}
use Rattle.claims.specs.Parts.{edge_number_at}
use Rattle.graph_laws.specs.Bools.{not-true, no_or, eqb_sound, eqb_same}
use Rattle.graph_laws.specs.Lists.{All, All-mono, upto, length_count}
use Rattle.graph_laws.specs.Ranks.{NoDup, mem-upto}
use Rattle.graph_laws.specs.Places.{no_longer}
use Rattle.graph_laws.specs.Consistency.{incoming_at, outgoing_at, PositionFits, DirectionFits, EdgeFits, Consistent}
use Rattle.messages.specs.Layout.{width}
use Rattle.messages.specs.LayoutOffsets.{long_at, offset_at, offset_apart, offset_mono, offset_room, span_at, span-end, span_room}
use Rattle.messages.specs.LayoutCut.{row_in}
use Rattle.messages.specs.LayoutPuts.{region-puts}
use Rattle.messages.specs.LayoutWrite.{sent}
use Rattle.messages.specs.LayoutOrder.{firsts_at, InOrder, firsts_mono, inside}

module _ (g : Subgraph) (t : MessageGraph) (C : Consistent g t) where
  -- ---- the two directions of each edge: there are no others, since they are as many

  abbrev E : ℕ
  E = length g.edges

  abbrev D : ℕ
  D = length t.directions

  abbrev one : ℕ → ℕ
  one k = incoming_at t (edge_at g k).node1 (edge_at g k).node2_in_node1

  abbrev two : ℕ → ℕ
  two k = incoming_at t (edge_at g k).node2 (edge_at g k).node1_in_node2

  -- a direction of an edge from number i on
  pub record OfEdge (i d : ℕ) : Type 0 where
    pub from : i ≤ edge_number_at g (direction_at t d).end (direction_at t d).start_in_end
    pub there : d < D
    pub straight : (direction_at t d).start ≡ (direction_at t d).end → ⊥

  differ : (x y : ℕ) → eqb x y ≡ false → x ≡ y → ⊥
  differ x y h e = true≢false (sym (eqb_same x) ∙ ap (λ (z : ℕ). eqb x z) e ∙ h)

  edge-one : (k : ℕ) → k < E → edge_number_at g (direction_at t (one k)).end (direction_at t (one k)).start_in_end ≡ k
  edge-one k h =
      ap (λ (w : Direction). edge_number_at g w.end w.start_in_end) (C.edge k h).to_node1 ∙ (C.edge k h).names_node1

  edge-two : (k : ℕ) → k < E → edge_number_at g (direction_at t (two k)).end (direction_at t (two k)).start_in_end ≡ k
  edge-two k h =
      ap (λ (w : Direction). edge_number_at g w.end w.start_in_end) (C.edge k h).to_node2 ∙ (C.edge k h).names_node2

  of_one : (k : ℕ) → k < E → OfEdge k (one k)
  of_one k h =
      let x : EdgeFits g t k (edge_at g k) = C.edge k h in
      record {
        from = (let z = edge-one k h in omega arith);
        there = (C.position (edge_at g k).node1 (edge_at g k).node2_in_node1 x.node1_there x.node2_in_node1_there).in_there;
        straight = (λ e. differ (edge_at g k).node1 (edge_at g k).node2 x.apart (sym (ap (λ (w : Direction). w.end) x.to_node1) ∙ sym e ∙ ap (λ (w : Direction). w.start) x.to_node1));
      }

  of_two : (k : ℕ) → k < E → OfEdge k (two k)
  of_two k h =
      let x : EdgeFits g t k (edge_at g k) = C.edge k h in
      record {
        from = (let z = edge-two k h in omega arith);
        there = (C.position (edge_at g k).node2 (edge_at g k).node1_in_node2 x.node2_there x.node1_in_node2_there).in_there;
        straight = (λ e. differ (edge_at g k).node1 (edge_at g k).node2 x.apart (sym (ap (λ (w : Direction). w.start) x.to_node2) ∙ e ∙ ap (λ (w : Direction). w.end) x.to_node2));
      }

  -- of n edges from number i on
  abbrev both : ℕ → ℕ → List ℕ
  both i zero = []
  both i (suc n) = one i ∷ two i ∷ both (suc i) n

  both_count : (i n : ℕ) → length (both i n) ≡ 2 * n
  both_count i zero = refl
  both_count i (suc n) = omega (arith, both_count (suc i) n)

  both_of : (i n : ℕ) → i + n ≤ E → All (OfEdge i) (both i n)
  both_of i zero h = tt
  both_of i (suc n) h =
      (of_one i (omega arith), (of_two i (omega arith), All-mono (OfEdge (suc i)) (OfEdge i) (λ d f. record { from = (let z = f.from in omega arith); there = f.there; straight = f.straight }) (both (suc i) n) (both_of (suc i) n (omega arith))))

  missing : (d : ℕ) (P : ℕ → Type 0) → ((e : ℕ) → P e → d ≡ e → ⊥) → (xs : List ℕ) → All P xs → mem eqb d xs ≡ false
  missing d P f [] a = refl
  missing d P f (x ∷ xs) a = no_or (eqb d x) (mem eqb d xs) (not-true (eqb d x) (λ e. f x a.0 (eqb_sound d x e))) (missing d P f xs a.1)

  -- a direction of an edge before i is none of those
  earlier : (i d : ℕ) → edge_number_at g (direction_at t d).end (direction_at t d).start_in_end ≡ i → (e : ℕ) → OfEdge (suc i) e → d ≡ e → ⊥
  earlier i d h e f q =
      let z = ap (λ (k : ℕ). edge_number_at g (direction_at t k).end (direction_at t k).start_in_end) q in
      omega (arith, z, f.from)

  both_once : (i n : ℕ) → i + n ≤ E → NoDup eqb (both i n)
  both_once i zero h = tt
  both_once i (suc n) h =
      let l : i < E = omega arith in
      let x : EdgeFits g t i (edge_at g i) = C.edge i l in
      let rest = both_of (suc i) n (omega arith) in (
        no_or (eqb (one i) (two i)) (mem eqb (one i) (both (suc i) n))
            (not-true (eqb (one i) (two i))
            (λ e.
            differ (edge_at g i).node1 (edge_at g i).node2 x.apart
            (sym (ap (λ (w : Direction). w.end) x.to_node1) ∙ ap (λ (d : ℕ). (direction_at t d).end) (eqb_sound (one i) (two i) e) ∙ ap (λ (w : Direction). w.end) x.to_node2)))
            (missing (one i) (OfEdge (suc i)) (earlier i (one i) (edge-one i l)) (both (suc i) n) rest),
        (missing (two i) (OfEdge (suc i)) (earlier i (two i) (edge-two i l)) (both (suc i) n) rest, both_once (suc i) n (omega arith)),
      )

  pub start-end_apart : (d : ℕ) → d < length t.directions → (direction_at t d).start ≡ (direction_at t d).end → ⊥
  start-end_apart d h e =
      let a = both_of 0 E (omega arith) in
      let m : mem eqb d (both 0 E) ≡ false = missing d (OfEdge 0) (λ c f q. f.straight (ap (λ (k : ℕ). (direction_at t k).start) (sym q) ∙ e ∙ ap (λ (k : ℕ). (direction_at t k).end) q)) (both 0 E) a in
      let b : All (λ c. mem eqb c (upto D) ≡ true) (d ∷ both 0 E) = (mem-upto D d h, All-mono (OfEdge 0) (λ c. mem eqb c (upto D) ≡ true) (λ c f. mem-upto D c f.there) (both 0 E) a) in
      let n = no_longer eqb eqb_sound eqb_same (d ∷ both 0 E) (upto D) (m, both_once 0 E (omega arith)) b in
      omega (arith, n, both_count 0 E, length_count 0 D, C.directions)

  -- so a node sends to other nodes
  pub sends_elsewhere : (n i : ℕ) → n < length t.nodes → i < length (node_at t n).outgoing → (direction_at t (outgoing_at t n i)).end ≡ n → ⊥
  sends_elsewhere n i h k e =
      let l : n < length g.nodes = omega (arith, C.nodes) in
      let P : PositionFits g t n i = C.position n i l (omega (arith, (C.node n l).outgoing)) in
      start-end_apart (outgoing_at t n i) P.out-there (P.out-start ∙ sym e)

  -- ---- in a row
  module _ (O : InOrder t) (n i : ℕ) (h : n < length t.nodes) (k : i < length (node_at t n).outgoing) where
    abbrev o : ℕ
    o = outgoing_at t n i

    out-there : o < D
    out-there = let l : n < length g.nodes = omega (arith, C.nodes) in (C.position n i l (omega (arith, (C.node n l).outgoing))).out-there

    pub out_apart : (o < (node_at t n).first_incoming) ⊎ ((node_at t n).first_incoming + length (node_at t n).outgoing ≤ o)
    out_apart =
        let F : DirectionFits g t o (direction_at t o) = C.direction o out-there in
        let m = (direction_at t o).end in
        let l : m < length t.nodes = omega (arith, F.end-there, C.nodes) in
        let d : length (node_at t m).outgoing ≡ _ = (C.node m F.end-there).outgoing in
        by_cases (dec_lt m n)
        (λ (a : m < n). inl (omega (arith, F.is_in, F.start_in_end_there, d, firsts_at t m l, O.after m l, firsts_mono t O (suc m) n a (omega arith), firsts_at t n h)))
        (λ a.
        by_cases (dec_lt n m)
        (λ (b : n < m). inr (omega (arith, F.is_in, firsts_at t n h, O.after n h, firsts_mono t O (suc n) m b (omega arith), firsts_at t m l)))
        (λ b. absurd (sends_elsewhere n i h k (let z : m ≡ n = omega arith in z))))

    pub offset-out_apart : (offset_at t.directions (node_at t n).first_incoming + span_at t.directions (node_at t n).first_incoming (length (node_at t n).outgoing) ≤ offset_at t.directions o)
        ⊎ (offset_at t.directions o + long_at t.directions o ≤ offset_at t.directions (node_at t n).first_incoming)
    offset-out_apart =
        let ds = t.directions in
        let f = (node_at t n).first_incoming in
        let m = length (node_at t n).outgoing in
        ⊎_elim (λ (a : o < f). inr (offset_apart ds o f a (omega (arith, inside t O n))))
        (λ (a : f + m ≤ o). inl (omega (arith, span-end ds f m (inside t O n), offset_mono ds (f + m) o a (omega (arith, out-there))))) out_apart

  -- while a node sends into a row, what it holds there stays as it was
  pub held_while_sending : (O : InOrder t) (n : ℕ) → n < length t.nodes → (ms : List Message) (r : List Float) (i : ℕ) → length r ≡ width t.directions → i ≤ length (node_at t n).outgoing
      → ((k : ℕ) → k < i → length (message_at k ms) ≡ long_at t.directions (outgoing_at t n k)) → row_in (node_at t n) t.directions (sent t.directions (node_at t n).outgoing ms r i) ≡ row_in (node_at t n) t.directions r
  held_while_sending O n h ms r i e q f =
      let ds = t.directions in
      let a = (node_at t n).first_incoming in
      let m = length (node_at t n).outgoing in
      region-puts nan r (λ k. offset_at ds (outgoing_at t n k)) (λ k. message_at k ms) i (offset_at ds a) (span_at ds a m)
      (λ k l. omega (arith, f k l, offset_room ds (outgoing_at t n k) (out-there O n k h (omega arith)))) (omega (arith, span_room ds a m (inside t O n)))
      (λ k l.
      ⊎_elim (λ u. inl u) (λ u. inr (omega (arith, f k l))) (offset-out_apart O n k h (omega arith)))
