-- The five rows of words, read: what each word of a graph's rows is, and that it is in range.
use Rattle.std.specs.Prelude.{ℕ, suc, ◌+◌, ◌-◌, ◌≤◌, ◌<◌, ◌≡◌, List, length, get_or}
use Rattle.std.proofs.Common.{add-one, arith, sym, ap, ◌∙◌}
use Rattle.std.proofs.lemmas.List.{length-map}
use Rattle.definition.specs.Components.{Subgraph}
use Rattle.definition.specs.Directions.{Direction, MessageNode, MessageGraph, no_direction, no_message_node, node_at, direction_at}
use Rattle.graph_laws.specs.DirectionNumbers.{get_d_mapped}
use Rattle.graph_laws.specs.Consistency.{incoming_at, outgoing_at, Reversed, DirectionFits, Consistent}
use Rattle.messages.specs.Layout.{width, kind_code, firsts_of, GraphRows}
use Rattle.messages.specs.LayoutOffsets.{offset_at, length_offsets, offset-next, offset-le, offset_room}
use Rattle.messages.specs.LayoutOrder.{firsts_at, firsts-end, length-firsts, InOrder, firsts_mono, length_outs, outs_at}

-- Node n is below the number of nodes, position i below its degree, direction d below the number of directions.
pub record RowsRead (t : MessageGraph) (kinds firsts starts outs offsets : List ℕ) : Type 0 where
  -- ---- the rows' lengths
  pub kinds-long : length kinds ≡ length t.nodes
  pub firsts-long : length firsts ≡ length t.nodes + 1
  pub starts_long : length starts ≡ length t.directions
  pub outs_long : length outs ≡ length t.directions
  pub offsets_long : length offsets ≡ length t.directions + 1
  -- ---- nodes
  pub kind : (n : ℕ) → n < length t.nodes → get_or kinds n 0 ≡ kind_code (node_at t n).kind
  pub first : (n : ℕ) → n < length t.nodes → get_or firsts n 0 ≡ (node_at t n).first_incoming
  -- where the next node's directions begin, or all end
  pub next : (n : ℕ) → n < length t.nodes → get_or firsts (n + 1) 0 ≡ (node_at t n).first_incoming + length (node_at t n).outgoing
  pub degree : (n : ℕ) → n < length t.nodes → get_or firsts (n + 1) 0 - get_or firsts n 0 ≡ length (node_at t n).outgoing
  pub first-zero : get_or firsts 0 0 ≡ 0
  pub first-end : get_or firsts (length t.nodes) 0 ≡ length t.directions
  pub first_mono : (m n : ℕ) → m ≤ n → n ≤ length t.nodes → get_or firsts m 0 ≤ get_or firsts n 0
  pub first-le : (n : ℕ) → n ≤ length t.nodes → get_or firsts n 0 ≤ length t.directions
  -- ---- positions
  pub out : (n i : ℕ) → n < length t.nodes → i < length (node_at t n).outgoing → get_or outs (get_or firsts n 0 + i) 0 ≡ get_or (node_at t n).outgoing i 0
  pub in_end : (n d : ℕ) → n < length t.nodes → get_or firsts n 0 ≤ d → d < get_or firsts (n + 1) 0 → (direction_at t d).end ≡ n
  -- ---- directions
  pub start : (d : ℕ) → d < length t.directions → get_or starts d 0 ≡ (direction_at t d).start
  pub start-lt : (d : ℕ) → d < length t.directions → get_or starts d 0 < length t.nodes
  -- the direction back
  pub out-lt : (d : ℕ) → d < length t.directions → get_or outs d 0 < length t.directions
  pub out-is : (d : ℕ) → d < length t.directions → get_or outs d 0 ≡ outgoing_at t (direction_at t d).end (direction_at t d).start_in_end
  pub out-out : (d : ℕ) → d < length t.directions → get_or outs (get_or outs d 0) 0 ≡ d
  -- so a direction ends where the one back starts
  pub end : (d : ℕ) → d < length t.directions → get_or starts (get_or outs d 0) 0 ≡ (direction_at t d).end
  pub end_lt : (d : ℕ) → d < length t.directions → (direction_at t d).end < length t.nodes
  pub end-first : (d : ℕ) → d < length t.directions → get_or firsts (direction_at t d).end 0 ≤ d
  pub end-next : (d : ℕ) → d < length t.directions → d < get_or firsts ((direction_at t d).end + 1) 0
  -- its position at its end, and at its start
  pub in_position : (d : ℕ) → d < length t.directions → d - get_or firsts (direction_at t d).end 0 ≡ (direction_at t d).start_in_end
  pub in_is : (d : ℕ) → d < length t.directions → get_or firsts (direction_at t d).end 0 + (direction_at t d).start_in_end ≡ d
  pub out_position : (d : ℕ) → d < length t.directions → get_or outs d 0 - get_or firsts (direction_at t d).start 0 ≡ (direction_at t d).end_in_start
  pub back_is : (d : ℕ) → d < length t.directions → get_or firsts (direction_at t d).start 0 + (direction_at t d).end_in_start ≡ get_or outs d 0
  -- and both messages along an edge are of one length
  pub out-length : (d : ℕ) → d < length t.directions → (direction_at t (get_or outs d 0)).message_length ≡ (direction_at t d).message_length
  -- ---- offsets
  pub offset : (d : ℕ) → get_or offsets d 0 ≡ offset_at t.directions d
  pub offset-le : (d : ℕ) → d ≤ length t.directions → get_or offsets d 0 ≤ width t.directions
  pub offset-next : (d : ℕ) → d < length t.directions → get_or offsets (d + 1) 0 ≡ get_or offsets d 0 + (direction_at t d).message_length
  pub offset_room : (d : ℕ) → d < length t.directions → get_or offsets d 0 + (direction_at t d).message_length ≤ width t.directions

module _ (g : Subgraph) (t : MessageGraph) (C : Consistent g t) (O : InOrder t) (kinds firsts starts outs offsets : List ℕ) (R : GraphRows t kinds firsts starts outs offsets) where
  -- n nodes, d directions
  abbrev Node' : ℕ → Type 0
  Node' n = n < length t.nodes

  abbrev Way : ℕ → Type 0
  Way d = d < length t.directions

  abbrev end' : ℕ → ℕ
  end' d = (direction_at t d).end

  fits : (d : ℕ) → Way d → DirectionFits g t d (direction_at t d)
  fits d h = C.direction d h

  end_is : (d : ℕ) → Way d → end' d < length t.nodes
  end_is d h = omega (arith, (fits d h).end-there, C.nodes)

  firsts-is : (n : ℕ) → get_or firsts n 0 ≡ get_or (firsts_of t) n 0
  firsts-is n = ap (λ (l : List ℕ). get_or l n 0) R.firsts_are

  first-is : (n : ℕ) → Node' n → get_or firsts n 0 ≡ (node_at t n).first_incoming
  first-is n h = firsts-is n ∙ firsts_at t n h

  next-is : (n : ℕ) → Node' n → get_or firsts (n + 1) 0 ≡ (node_at t n).first_incoming + length (node_at t n).outgoing
  next-is n h = ap (λ (m : ℕ). get_or firsts m 0) (add-one n) ∙ firsts-is (suc n) ∙ O.after n h ∙ ap (λ (m : ℕ). m + length (node_at t n).outgoing) (firsts_at t n h)

  mono : (m n : ℕ) → m ≤ n → n ≤ length t.nodes → get_or firsts m 0 ≤ get_or firsts n 0
  mono m n h k = omega (arith, firsts-is m, firsts-is n, firsts_mono t O m n h k)

  start_is : (d : ℕ) → Way d → get_or starts d 0 ≡ (direction_at t d).start
  start_is d h = ap (λ (l : List ℕ). get_or l d 0) R.starts_are ∙ get_d_mapped (λ (w : Direction). w.start) t.directions d no_direction 0 h

  -- a position's direction
  out-at : (n i : ℕ) → Node' n → i < length (node_at t n).outgoing → get_or outs ((node_at t n).first_incoming + i) 0 ≡ outgoing_at t n i
  out-at n i h k = ap (λ (l : List ℕ). get_or l ((node_at t n).first_incoming + i) 0) R.outs_are ∙ outs_at t O n i h k

  within : (d : ℕ) → Way d → (direction_at t d).start_in_end < length (node_at t (end' d)).outgoing
  within d h = omega (arith, (fits d h).start_in_end_there, (C.node (end' d) (fits d h).end-there).outgoing)

  back_at : (d : ℕ) → Way d → get_or outs d 0 ≡ outgoing_at t (end' d) (direction_at t d).start_in_end
  back_at d h = ap (λ (k : ℕ). get_or outs k 0) (sym (fits d h).is_in) ∙ out-at (end' d) (direction_at t d).start_in_end (end_is d h) (within d h)

  back-lt : (d : ℕ) → Way d → Way (get_or outs d 0)
  back-lt d h = rw (back_at d h) (fits d h).back-there

  back : (d : ℕ) → Way d → Reversed (direction_at t d) (direction_at t (get_or outs d 0))
  back d h = rw (back_at d h) (fits d h).back

  in_at : (d : ℕ) → Way d → get_or firsts (end' d) 0 + (direction_at t d).start_in_end ≡ d
  in_at d h = ap (λ (k : ℕ). k + (direction_at t d).start_in_end) (first-is (end' d) (end_is d h)) ∙ (fits d h).is_in

  -- the direction back, by the start
  back_in : (d : ℕ) → Way d → get_or firsts (direction_at t d).start 0 + (direction_at t d).end_in_start ≡ get_or outs d 0
  back_in d h =
      let B : Reversed (direction_at t d) (direction_at t (get_or outs d 0)) = back d h in
      ap (λ (k : ℕ). get_or firsts k 0 + (direction_at t d).end_in_start) (sym B.end) ∙ ap (λ (k : ℕ). get_or firsts (end' (get_or outs d 0)) 0 + k) (sym B.start_in_end) ∙ in_at (get_or outs d 0) (back-lt d h)

  there_and_back : (d : ℕ) → Way d → get_or outs (get_or outs d 0) 0 ≡ d
  there_and_back d h =
      let B : Reversed (direction_at t d) (direction_at t (get_or outs d 0)) = back d h in
      sym (back_in (get_or outs d 0) (back-lt d h)) ∙ ap (λ (k : ℕ). get_or firsts k 0 + (direction_at t (get_or outs d 0)).end_in_start) B.start ∙ ap (λ (k : ℕ). get_or firsts (end' d) 0 + k) B.end_in_start ∙ in_at d h

  ends_at : (n d : ℕ) → Node' n → get_or firsts n 0 ≤ d → d < get_or firsts (n + 1) 0 → (direction_at t d).end ≡ n
  ends_at n d h a b =
      let i = d - get_or firsts n 0 in
      let e : incoming_at t n i ≡ d = omega (arith, first-is n h) in
      let l : n < length g.nodes = omega (arith, C.nodes) in
      ap (λ (k : ℕ). (direction_at t k).end) (sym e) ∙ (C.position n i l (omega (arith, first-is n h, next-is n h, (C.node n l).outgoing))).in_end

  off : (d : ℕ) → get_or offsets d 0 ≡ offset_at t.directions d
  off d = ap (λ (l : List ℕ). get_or l d 0) R.offsets_are

  pub rows-read : RowsRead t kinds firsts starts outs offsets
  rows-read =
      record {
        kinds-long = ap length R.kinds_are ∙ length-map t.nodes (λ (x : MessageNode). kind_code x.kind);
        firsts-long = ap length R.firsts_are ∙ length-firsts t;
        starts_long = ap length R.starts_are ∙ length-map t.directions (λ (w : Direction). w.start);
        outs_long = ap length R.outs_are ∙ length_outs t O;
        offsets_long = ap length R.offsets_are ∙ length_offsets 0 t.directions ∙ sym (add-one (length t.directions));
        kind = (λ n h. ap (λ (l : List ℕ). get_or l n 0) R.kinds_are ∙ get_d_mapped (λ (x : MessageNode). kind_code x.kind) t.nodes n no_message_node 0 h);
        first = first-is;
        next = next-is;
        degree = (λ n h. omega (arith, first-is n h, next-is n h));
        first-zero = firsts-is 0 ∙ O.from_zero;
        first-end = firsts-is (length t.nodes) ∙ firsts-end t;
        first_mono = mono;
        first-le = (λ n h. omega (arith, mono n (length t.nodes) h (omega arith), firsts-is (length t.nodes), firsts-end t));
        out = (λ n i h k. ap (λ (m : ℕ). get_or outs (m + i) 0) (first-is n h) ∙ out-at n i h k);
        in_end = ends_at;
        start = start_is;
        start-lt = (λ d h. omega (arith, start_is d h, (fits d h).start-there, C.nodes));
        out-lt = back-lt;
        out-is = back_at;
        out-out = there_and_back;
        end = (λ d h. start_is (get_or outs d 0) (back-lt d h) ∙ (back d h).start);
        end_lt = end_is;
        end-first = (λ d h. omega (arith, in_at d h));
        end-next = (λ d h. omega (arith, in_at d h, first-is (end' d) (end_is d h), next-is (end' d) (end_is d h), within d h));
        in_position = (λ d h. omega (arith, in_at d h));
        in_is = in_at;
        out_position = (λ d h. omega (arith, back_in d h));
        back_is = back_in;
        out-length = (λ d h. (back d h).message_length);
        offset = off;
        offset-le = (λ d h. omega (arith, off d, offset-le t.directions d h));
        offset-next = (λ d h. off (d + 1) ∙ offset-next t.directions d h ∙ ap (λ (k : ℕ). k + (direction_at t d).message_length) (sym (off d)));
        offset_room = (λ d h. omega (arith, off d, offset_room t.directions d h));
      }
