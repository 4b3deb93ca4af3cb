-- A node's lists and its part of a message row, in words: what a loop over a node's positions reads and writes.
use Prim.Native.Nat.{ℕ, suc, ◌+◌, ◌-◌, ◌≤◌, ◌<◌, min}
use Rattle.std.proofs.Math.Decide.{dec_lt}
use native.Mathlib.Omega.{arith}
use Rattle.std.specs.Prelude.{◌≡◌, Float, length, set}
use Rattle.std.proofs.Math.Path.{sym, ap}
use Rattle.std.proofs.Common.{◌∙◌, ext_get_or, take-take, drop-drop}
use Rattle.std.proofs.Math.Logic.{by_cases}
use mathlib.Core.List.{List, [], ◌∷◌, ◌++◌, map, append_assoc}
use Rattle.std.proofs.Math.ListN.{get_or, take, drop}
use Rattle.std.proofs.lemmas.List.{length-map}
use Rattle.definition.specs.Vectors.{Message}
use Rattle.definition.specs.Directions.{Direction, MessageGraph, no_direction, node_at, direction_at, message_at, messages_in}
use Rattle.definition.specs.Run.{neighbour_numbers, other_outgoing}
use Rattle.graph_laws.specs.DirectionNumbers.{get_d_mapped}
use Rattle.graph_laws.specs.Lists.{append_none}
use Rattle.list_laws.specs.Part.{region, get_d_region, length-region}
use Rattle.list_laws.specs.Put.{put}
use Rattle.messages.specs.Layout.{cut, width}
use Rattle.messages.specs.LayoutLists.{drop-take, map-take, map-drop, region-suc}
use Rattle.messages.specs.LayoutOffsets.{long_at, offset_at, TwoLong}
use Rattle.messages.specs.LayoutCut.{cut_at, row_in}
use Rattle.messages.specs.LayoutPairs.{pairs, messages_in-pairs}
use Rattle.messages.specs.LayoutPuts.{puts-next}
use Rattle.messages.specs.LayoutWrite.{cut-put, sent}
use Rattle.messages.specs.LayoutCopy.{copied}
use Rattle.messages.specs.LayoutRows.{RowsRead}

-- Of the words from f to k - 1 all but that at d: what a loop that passes over d has seen when it is at k.
abbrev pub others_to : List ℕ → ℕ → ℕ → ℕ → List ℕ
others_to outs f d k = region outs f (min k d - f) ++ region outs (d + 1) (k - (d + 1))

module _ (outs : List ℕ) (f d : ℕ) (before : f ≤ d) where
  pub others-none : others_to outs f d f ≡ []
  others-none = ap (λ (n : ℕ). take n (drop f outs) ++ region outs (d + 1) (f - (d + 1))) (let z : min f d - f ≡ 0 = omega arith in z) ∙ ap (λ (n : ℕ). region outs (d + 1) n) (let z : f - (d + 1) ≡ 0 = omega arith in z)

  -- at d
  pub others_same : (k : ℕ) → k ≡ d → others_to outs f d (k + 1) ≡ others_to outs f d k
  others_same k e =
      ap (λ (n : ℕ). region outs f n ++ region outs (d + 1) (k + 1 - (d + 1))) (let z : min (k + 1) d - f ≡ min k d - f = omega arith in z)
      ∙ ap (λ (n : ℕ). region outs f (min k d - f) ++ region outs (d + 1) n) (let z : k + 1 - (d + 1) ≡ k - (d + 1) = omega arith in z)

  -- and elsewhere
  pub others-next : (k : ℕ) → f ≤ k → k < length outs → (k ≡ d → ⊥) → others_to outs f d (k + 1) ≡ others_to outs f d k ++ (get_or outs k 0 ∷ [])
  others-next k h l q =
      by_cases (dec_lt k d)
      (λ (a : k < d).
      ap (λ (n : ℕ). region outs f n ++ region outs (d + 1) (k + 1 - (d + 1))) (let z : min (k + 1) d - f ≡ suc (min k d - f) = omega arith in z)
      ∙ ap (λ (n : ℕ). region outs f (suc (min k d - f)) ++ region outs (d + 1) n) (let z : k + 1 - (d + 1) ≡ 0 = omega arith in z)
      ∙ append_none (region outs f (suc (min k d - f)))
      ∙ region-suc outs f (min k d - f) 0 (omega arith)
      ∙ ap (λ (n : ℕ). region outs f (min k d - f) ++ (get_or outs n 0 ∷ [])) (let z : f + (min k d - f) ≡ k = omega arith in z)
      ∙ ap (λ (l : List ℕ). l ++ (get_or outs k 0 ∷ [])) (sym (append_none (region outs f (min k d - f))))
      ∙ ap (λ (n : ℕ). (region outs f (min k d - f) ++ region outs (d + 1) n) ++ (get_or outs k 0 ∷ [])) (let z : 0 ≡ k - (d + 1) = omega arith in z))
      (λ a.
      ap (λ (n : ℕ). region outs f n ++ region outs (d + 1) (k + 1 - (d + 1))) (let z : min (k + 1) d - f ≡ min k d - f = omega arith in z)
      ∙ ap (λ (n : ℕ). region outs f (min k d - f) ++ region outs (d + 1) n) (let z : k + 1 - (d + 1) ≡ suc (k - (d + 1)) = omega arith in z)
      ∙ ap (λ (l : List ℕ). region outs f (min k d - f) ++ l) (region-suc outs (d + 1) (k - (d + 1)) 0 (omega arith))
      ∙ ap (λ (n : ℕ). region outs f (min k d - f) ++ (region outs (d + 1) (k - (d + 1)) ++ (get_or outs n 0 ∷ []))) (let z : d + 1 + (k - (d + 1)) ≡ k = omega arith in z)
      ∙ sym (append_assoc (region outs f (min k d - f)) (region outs (d + 1) (k - (d + 1))) (get_or outs k 0 ∷ [])))

module _ (t : MessageGraph) (kinds firsts starts outs offsets : List ℕ) (Q : RowsRead t kinds firsts starts outs offsets) where
  -- ---- a node's lists
  module _ (n : ℕ) (h : n < length t.nodes) where
    abbrev f : ℕ
    f = get_or firsts n 0

    abbrev k : ℕ
    k = get_or firsts (n + 1) 0 - get_or firsts n 0

    room : f + k ≤ length t.directions
    room = omega (arith, Q.first n h, Q.next n h, Q.degree n h, Q.first-le (n + 1) (omega arith))

    pub outgoing_row : (node_at t n).outgoing ≡ region outs (get_or firsts n 0) (get_or firsts (n + 1) 0 - get_or firsts n 0)
    outgoing_row =
        let e : length (region outs f k) ≡ k = length-region outs f k (omega (arith, room, Q.outs_long)) in
        ext_get_or 0 (node_at t n).outgoing (region outs f k) (omega (arith, e, Q.degree n h))
        (λ i q. sym (Q.out n i h q) ∙ sym (get_d_region outs f k i 0 (omega (arith, Q.degree n h))))

    starts_row_lem : starts ≡ map (λ (w : Direction). w.start) t.directions
    starts_row_lem =
        let e : length (map (λ (w : Direction). w.start) t.directions) ≡ length t.directions = length-map t.directions (λ (w : Direction). w.start) in
        ext_get_or 0 starts (map (λ (w : Direction). w.start) t.directions) (omega (arith, e, Q.starts_long))
        (λ d q. let l : d < length t.directions = omega (arith, Q.starts_long) in Q.start d l ∙ sym (get_d_mapped (λ (w : Direction). w.start) t.directions d no_direction 0 l))

    pub neighbours-row : neighbour_numbers t (node_at t n) ≡ region starts (get_or firsts n 0) (get_or firsts (n + 1) 0 - get_or firsts n 0)
    unfolding neighbour_numbers
    neighbours-row =
        map-take (λ (w : Direction). w.start) (length (node_at t n).outgoing) (drop (node_at t n).first_incoming t.directions)
        ∙ ap (take (length (node_at t n).outgoing)) (map-drop (λ (w : Direction). w.start) (node_at t n).first_incoming t.directions)
        ∙ ap (λ (l : List ℕ). region l (node_at t n).first_incoming (length (node_at t n).outgoing)) (sym starts_row_lem)
        ∙ ap (λ (i : ℕ). region starts i (length (node_at t n).outgoing)) (sym (Q.first n h))
        ∙ ap (region starts f) (sym (Q.degree n h))

    -- ---- its part of a message row
    pub row_in_lem : (r : List Float) → row_in (node_at t n) t.directions r
        ≡ region r (get_or offsets (get_or firsts n 0) 0) (get_or offsets (get_or firsts (n + 1) 0) 0 - get_or offsets (get_or firsts n 0) 0)
    row_in_lem r =
        let a : offset_at t.directions (node_at t n).first_incoming ≡ get_or offsets f 0 = ap (offset_at t.directions) (sym (Q.first n h)) ∙ sym (Q.offset f) in
        let b : offset_at t.directions ((node_at t n).first_incoming + length (node_at t n).outgoing) ≡ get_or offsets (get_or firsts (n + 1) 0) 0 =
        ap (offset_at t.directions) (sym (Q.next n h)) ∙ sym (Q.offset (get_or firsts (n + 1) 0)) in
        ap (λ (i : ℕ). region r (offset_at t.directions (node_at t n).first_incoming) (i - offset_at t.directions (node_at t n).first_incoming)) b
        ∙ ap (λ (i : ℕ). region r i (get_or offsets (get_or firsts (n + 1) 0) 0 - i)) a

    -- where it sends: to a direction that is there
    pub sends-there : (i : ℕ) → i < length (node_at t n).outgoing → get_or (node_at t n).outgoing i 0 < length t.directions
    sends-there i q = omega (arith, sym (Q.out n i h q), Q.out-lt (get_or firsts n 0 + i) (omega (arith, Q.first n h, Q.next n h, Q.first-le (n + 1) (omega arith))))

    pub sends-at : (i : ℕ) → i < length (node_at t n).outgoing → offset_at t.directions (get_or (node_at t n).outgoing i 0) ≡ get_or offsets (get_or outs (get_or firsts n 0 + i) 0) 0
    sends-at i q = ap (offset_at t.directions) (sym (Q.out n i h q)) ∙ sym (Q.offset (get_or outs (get_or firsts n 0 + i) 0))

    -- a loop over its positions: w is the row after i of its messages, and the next one is put
    pub sent-next : (ms : List Message) (r w : List Float) (m : Message) (i : ℕ) → i < length (node_at t n).outgoing → w ≡ sent t.directions (node_at t n).outgoing ms r i → m ≡ message_at i ms
        → put w (get_or offsets (get_or outs (get_or firsts n 0 + i) 0) 0) m ≡ sent t.directions (node_at t n).outgoing ms r (i + 1)
    sent-next ms r w m i q s z =
        puts-next r w (λ j. offset_at t.directions (get_or (node_at t n).outgoing j 0)) (λ j. message_at j ms) i (get_or offsets (get_or outs (get_or firsts n 0 + i) 0) 0) m s (sym (sends-at i q)) z

    -- all that it holds
    pub inside-row : (node_at t n).first_incoming + length (node_at t n).outgoing ≤ length t.directions
    inside-row = omega (arith, Q.next n h, Q.first-le (n + 1) (omega arith))

    pub held-pairs : (r : List Float) → length r ≡ width t.directions → TwoLong t.directions (node_at t n).first_incoming (length (node_at t n).outgoing)
        → messages_in (node_at t n) (cut t.directions r) ≡ pairs (region r (get_or offsets (get_or firsts n 0) 0) (get_or offsets (get_or firsts (n + 1) 0) 0 - get_or offsets (get_or firsts n 0) 0))
    held-pairs r z two = messages_in-pairs (node_at t n) t.directions r inside-row z two ∙ ap pairs (row_in_lem r)

  -- a loop over nodes: w is the row after the first i of them were copied, and the next one's part is put
  pub copied_next : (a : List Float) (ns : List ℕ) (b w : List Float) (i n : ℕ) → n < length t.nodes → n ≡ get_or ns i 0 → w ≡ copied t a ns b i
      → put w (get_or offsets (get_or firsts n 0) 0) (region a (get_or offsets (get_or firsts n 0) 0) (get_or offsets (get_or firsts (n + 1) 0) 0 - get_or offsets (get_or firsts n 0) 0)) ≡ copied t a ns b (i + 1)
  copied_next a ns b w i n h z s =
      puts-next b w (λ j. offset_at t.directions (node_at t (get_or ns j 0)).first_incoming) (λ j. row_in (node_at t (get_or ns j 0)) t.directions a) i (get_or offsets (get_or firsts n 0) 0)
      (region a (get_or offsets (get_or firsts n 0) 0) (get_or offsets (get_or firsts (n + 1) 0) 0 - get_or offsets (get_or firsts n 0) 0)) s
      (Q.offset (get_or firsts n 0) ∙ ap (offset_at t.directions) (Q.first n h) ∙ ap (λ (m : ℕ). offset_at t.directions (node_at t m).first_incoming) z)
      (sym (row_in_lem n h a) ∙ ap (λ (m : ℕ). row_in (node_at t m) t.directions a) z)

  -- ---- a direction's message, and its end's other outgoing directions
  module _ (d : ℕ) (h : d < length t.directions) where
    pub message_row : (r : List Float) → region r (offset_at t.directions d) (long_at t.directions d) ≡ region r (get_or offsets d 0) (get_or offsets (d + 1) 0 - get_or offsets d 0)
    message_row r =
        ap (λ (i : ℕ). region r i (long_at t.directions d)) (sym (Q.offset d))
        ∙ ap (region r (get_or offsets d 0)) (let z : long_at t.directions d ≡ get_or offsets (d + 1) 0 - get_or offsets d 0 = omega (arith, Q.offset-next d h) in z)

    pub message_cut : (r : List Float) → message_at d (cut t.directions r) ≡ region r (get_or offsets d 0) (get_or offsets (d + 1) 0 - get_or offsets d 0)
    message_cut r = cut_at t.directions r d h ∙ message_row r

    pub message_put : (r : List Float) (m : Message) → length r ≡ width t.directions → length m ≡ (direction_at t d).message_length → cut t.directions (put r (get_or offsets d 0) m) ≡ set (cut t.directions r) d m
    message_put r m z q = ap (λ (i : ℕ). cut t.directions (put r i m)) (Q.offset d) ∙ cut-put t.directions r d m z h q

    abbrev e : ℕ
    e = (direction_at t d).end

    pub others-row : other_outgoing (direction_at t d).start_in_end (node_at t (direction_at t d).end).outgoing ≡ others_to outs (get_or firsts (direction_at t d).end 0) d (get_or firsts ((direction_at t d).end + 1) 0)
    unfolding other_outgoing
    others-row =
        let a = get_or firsts e 0 in
        let b = get_or firsts (e + 1) 0 in
        let p : a ≤ d = Q.end-first d h in
        let q : d < b = Q.end-next d h in
        let i : (direction_at t d).start_in_end ≡ d - a = sym (Q.in_position d h) in
        ap (λ (l : List ℕ). take (direction_at t d).start_in_end l ++ drop (suc (direction_at t d).start_in_end) l) (outgoing_row e (Q.end_lt d h))
        ∙ ap (λ (j : ℕ). take j (region outs a (b - a)) ++ drop (suc j) (region outs a (b - a))) i
        ∙ ap (λ (l : List ℕ). l ++ drop (suc (d - a)) (region outs a (b - a))) (take-take (d - a) (b - a) (drop a outs) (omega arith))
        ∙ ap (λ (j : ℕ). region outs a (d - a) ++ drop (suc (d - a)) (region outs a j)) (let z : b - a ≡ suc (d - a) + (b - (d + 1)) = omega arith in z)
        ∙ ap (λ (l : List ℕ). region outs a (d - a) ++ l) (drop-take (suc (d - a)) (b - (d + 1)) (drop a outs) ∙ ap (take (b - (d + 1))) (drop-drop (suc (d - a)) a outs))
        ∙ ap (λ (j : ℕ). region outs a (d - a) ++ region outs j (b - (d + 1))) (let z : a + suc (d - a) ≡ d + 1 = omega arith in z)
        ∙ ap (λ (j : ℕ). region outs a j ++ region outs (d + 1) (b - (d + 1))) (let z : d - a ≡ min b d - a = omega arith in z)

  -- no two directions go back by the same
  pub outs_apart : (d c : ℕ) → d < length t.directions → c < length t.directions → get_or outs d 0 ≡ get_or outs c 0 → d ≡ c
  outs_apart d c h k q = sym (Q.out-out d h) ∙ ap (λ (i : ℕ). get_or outs i 0) q ∙ Q.out-out c k
