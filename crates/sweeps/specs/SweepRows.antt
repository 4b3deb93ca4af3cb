-- What a node's part of a sweep writes in words is what the definition's node sends: the new row gets its messages, and the other floats stay.
use Prim.Native.Nat.{ℕ, zero, suc, ◌+◌, ◌-◌, ◌*◌, ◌≤◌, ◌<◌}
use native.Mathlib.Omega.{arith}
use Rattle.std.specs.Prelude.{◌≡◌, Bool, ◌⊎◌, Float}
use Rattle.std.proofs.Math.Path.{refl, sym, ap}
use Rattle.std.proofs.Common.{◌∙◌, ⊎_elim, length-drop}
use Rattle.std.proofs.Math.Bool.{true, false}
use mathlib.Core.List.{List, [], ◌++◌, map, append_assoc}
use Rattle.std.proofs.Math.ListN.{length, get_or, take, drop}
use Rattle.std.proofs.lemmas.List.{take-append-le}
use Rattle.std.proofs.Math.Seq.{drop-append-le, take-append-add, drop-append-add}
use Rattle.definition.specs.Vectors.{Message}
use Rattle.definition.specs.Settings.{Settings}
use Rattle.definition.specs.FactorGraph.{Kind, grade, factor, input, tree, is_tree}
use Rattle.definition.specs.Directions.{MessageNode, MessageGraph, no_message_node, node_at, direction_at, message_at, messages_in}
use Rattle.definition.specs.Messages.{initial_belief, out_message_variable, out_message_by, out_message, LastBuild, Outgoing, out_messages, out_messages_tree}
use Rattle.graph_laws.specs.AloneChecks.{All-getD}
use Rattle.graph_laws.specs.DirectionNumbers.{get_d_mapped}
use Rattle.graph_laws.specs.Consistency.{PositionFits}
use Rattle.graph_laws.specs.Sending.{MessageNodeKept}
use Rattle.list_laws.specs.Part.{region}
use Rattle.list_laws.specs.Put.{put}
use Rattle.messages.specs.Layout.{cut, width, kind_code}
use Rattle.messages.specs.LayoutOffsets.{offset_at, TwoLong, span-two, offset_mono, offset_room}
use Rattle.messages.specs.LayoutCut.{cut_fits}
use Rattle.messages.specs.LayoutPairs.{pairs}
use Rattle.messages.specs.LayoutPuts.{puts, puts_ext, length-puts}
use Rattle.messages.specs.LayoutRows.{RowsRead, rows-read}
use Rattle.messages.specs.LayoutWords.{inside-row, sends-there, sends-at, held-pairs}
use Rattle.messages.specs.LayoutWrite.{Takes, sent}
use Rattle.messages.specs.LayoutKinds.{grade-two, input_two}
use Rattle.messages.specs.LayoutSweeps.{Sends, node-sends}
use Rattle.messages.specs.State.{PartRows}
use Rattle.sweeps.specs.Sweep.{place_of, Pairing, variable_sent}

-- ---- a list in the middle of three is written

module _ {A : Type 0} where
  pub put_middle : (p q r m : List A) (a : ℕ) → a + length m ≤ length q → put (p ++ (q ++ r)) (length p + a) m ≡ p ++ (put q a m ++ r)
  unfolding put
  put_middle p q r m a h =
      ap (λ (u : List A). u ++ (m ++ drop (length p + a + length m) (p ++ (q ++ r)))) (take-append-add p (q ++ r) a ∙ ap (λ (u : List A). p ++ u) (take-append-le a q r (omega arith)))
      ∙ ap (λ (n : ℕ). (p ++ take a q) ++ (m ++ drop n (p ++ (q ++ r)))) (let z : length p + a + length m ≡ length p + (a + length m) = omega arith in z)
      ∙ ap (λ (u : List A). (p ++ take a q) ++ (m ++ u)) (drop-append-add p (q ++ r) (a + length m) ∙ drop-append-le (a + length m) q r h)
      ∙ append_assoc p (take a q) (m ++ (drop (a + length m) q ++ r))
      ∙ ap (λ (u : List A). p ++ u) (ap (λ (u : List A). take a q ++ u) (sym (append_assoc m (drop (a + length m) q) r)) ∙ sym (append_assoc (take a q) (m ++ drop (a + length m) q) r))

  pub puts_middle : (p q r : List A) (at : ℕ → ℕ) (s : ℕ → List A) (n : ℕ) → ((k : ℕ) → k < n → at k + length (s k) ≤ length q) → puts (p ++ (q ++ r)) (λ k. length p + at k) s n ≡ p ++ (puts q at s n ++ r)
  unfolding puts
  puts_middle p q r at s zero h = refl
  puts_middle p q r at s (suc n) h =
      ap (λ (u : List A). put u (length p + at n) (s n)) (puts_middle p q r at s n (λ k z. h k (omega arith)))
      ∙ put_middle p (puts q at s n) r (s n) (at n) (omega (arith, length-puts q at s n (λ k z. h k (omega arith)), h n (omega arith)))

  -- what is read of the first
  pub region-front : (p r : List A) (a n : ℕ) → a + n ≤ length p → region (p ++ r) a n ≡ region p a n
  region-front p r a n h = ap (take n) (drop-append-le a p r (omega arith)) ∙ take-append-le n (drop a p) r (simp length-drop (omega arith))

-- ---- a grade or an input

abbrev pub IsVariable : Kind → Type 0
IsVariable k = (kind_code k ≡ 0) ⊎ (kind_code k ≡ 2)

variable_by : (k : Kind) → IsVariable k → (s : Settings) (ms : List Message) (i : ℕ) (r : Kind) (o : Message) → out_message_by k s ms i r o ≡ out_message_variable (initial_belief s k) ms i
unfolding out_message_by
variable_by grade v s ms i r o = refl
variable_by (input e) v s ms i r o = refl
variable_by (factor d) v s ms i r o = absurd (⊎_elim (λ (z : 1 ≡ 0). let y : ⊥ = omega arith in y) (λ (z : 1 ≡ 2). let y : ⊥ = omega arith in y) v)
variable_by (tree d) v s ms i r o = absurd (⊎_elim (λ (z : 3 ≡ 0). let y : ⊥ = omega arith in y) (λ (z : 3 ≡ 2). let y : ⊥ = omega arith in y) v)

pub variable_no_tree : (k : Kind) → IsVariable k → is_tree k ≡ false
variable_no_tree grade v = refl
variable_no_tree (input e) v = refl
variable_no_tree (factor d) v = refl
variable_no_tree (tree d) v = absurd (⊎_elim (λ (z : 3 ≡ 0). let y : ⊥ = omega arith in y) (λ (z : 3 ≡ 2). let y : ⊥ = omega arith in y) v)

variable_few : (t : MessageGraph) (s : Settings) (k : Kind) (x : MessageNode) → IsVariable k → MessageNodeKept (λ m. Unit {0}) t s k x → length x.outgoing ≤ 1024
variable_few t s grade x v m = m.few
variable_few t s (input e) x v m = m.0.few
variable_few t s (factor d) x v m = absurd (⊎_elim (λ (z : 1 ≡ 0). let y : ⊥ = omega arith in y) (λ (z : 1 ≡ 2). let y : ⊥ = omega arith in y) v)
variable_few t s (tree d) x v m = absurd (⊎_elim (λ (z : 3 ≡ 0). let y : ⊥ = omega arith in y) (λ (z : 3 ≡ 2). let y : ⊥ = omega arith in y) v)

module _ (s : Settings) (t : MessageGraph) (kinds firsts starts outs offsets labels : List ℕ) (evidence : List Float) (P : PartRows s t kinds firsts starts outs offsets labels evidence) where
  pub read-rows : RowsRead t kinds firsts starts outs offsets
  read-rows = rows-read P.subgraph t P.consistent P.in_order kinds firsts starts outs offsets P.rows

  module _ (n : ℕ) (h : n < length t.nodes) where
    abbrev x : MessageNode
    x = node_at t n

    abbrev k : ℕ
    k = length (node_at t n).outgoing

    abbrev f : ℕ
    f = get_or firsts n 0

    -- ---- what a node but a tree sends, position by position
    pub position : (i : ℕ) → i < k → PositionFits P.subgraph t n i
    position i q = let l : n < length P.subgraph.nodes = omega (arith, P.consistent.nodes) in P.consistent.position n i l (omega (arith, (P.consistent.node n l).outgoing))

    pub out-at : (ms : List Message) (i : ℕ) → i < k → out_message s t ms (get_or x.outgoing i 0)
        ≡ out_message_by x.kind s (messages_in x ms) i (node_at t (direction_at t (get_or x.outgoing i 0)).end).kind (message_at (get_or x.outgoing i 0) ms)
    unfolding out_message
    out-at ms i q =
        let o = get_or x.outgoing i 0 in
        ap (λ (m : ℕ). out_message_by (node_at t m).kind s (messages_in (node_at t m) ms) (direction_at t o).end_in_start (node_at t (direction_at t o).end).kind (message_at o ms)) (position i q).out-start
        ∙ ap (λ (m : ℕ). out_message_by x.kind s (messages_in x ms) m (node_at t (direction_at t o).end).kind (message_at o ms)) (position i q).out_end_in_start

    pub plain : (ms : List Message) (b : LastBuild) → is_tree x.kind ≡ false → out_messages s t ms x b ≡ record { messages = map (out_message s t ms) x.outgoing; last_build = b }
    unfolding out_messages
    plain ms b e =
        ap (λ (c : Bool). elim c as (λ (z : Bool). Outgoing) [ true ↦ out_messages_tree s ms x b | false ↦ record { messages = map (out_message s t ms) x.outgoing; last_build = b } ]) e

    pub plain_at : (ms : List Message) (b : LastBuild) → is_tree x.kind ≡ false → (i : ℕ) → i < k → out_message s t ms (get_or x.outgoing i 0) ≡ message_at i (out_messages s t ms x b).messages
    plain_at ms b e i q = sym (ap (λ (y : Outgoing). message_at i y.messages) (plain ms b e) ∙ get_d_mapped (out_message s t ms) x.outgoing i 0 [] q)

    -- what it sends fits the new row
    pub sends_fit : (r_in : List Float) → length r_in ≡ width t.directions → (b : LastBuild) → Sends t.directions x.outgoing (out_messages s t (cut t.directions r_in) x b).messages
    sends_fit r_in e b =
        node-sends s t P.kept.sound (cut t.directions r_in) (cut_fits t.directions r_in e) n
        (inside-row t kinds firsts starts outs offsets read-rows n h) (sends-there t kinds firsts starts outs offsets read-rows n h) b

    -- ---- a grade or an input
    module _ (v : IsVariable (node_at t n).kind) where
      two : TwoLong t.directions (node_at t n).first_incoming (length (node_at t n).outgoing)
      two = ⊎_elim (λ z. grade-two P.subgraph t P.consistent P.kept.sound n h z) (λ z. input_two P.subgraph t P.consistent P.kept.sound n h z) v

      from-to : get_or offsets (get_or firsts (n + 1) 0) 0 ≡ get_or offsets f 0 + 2 * k
      from-to =
          let a = ap (offset_at t.directions) (read-rows.first n h) in
          let b = ap (offset_at t.directions) (read-rows.next n h) in
          let i = inside-row t kinds firsts starts outs offsets read-rows n h in
          omega (arith, a, b, read-rows.offset f, read-rows.offset (get_or firsts (n + 1) 0), span-two t.directions x.first_incoming k i two, read-rows.offset-le (get_or firsts (n + 1) 0) (read-rows.first-le (n + 1) (omega arith)), offset_mono t.directions x.first_incoming (x.first_incoming + k) (omega arith) i)

      pub variable_fits : (room : ℕ) → width t.directions + width t.directions ≤ room → Pairing outs offsets (width t.directions) (get_or offsets f 0) f k room
      variable_fits room g =
          let R = read-rows in
          let l : f + k ≤ length t.directions = omega (arith, R.first n h, R.next n h, R.first-le (n + 1) (omega arith)) in
          record {
            few = variable_few t s x.kind x v (All-getD (λ y. MessageNodeKept (λ m. Unit {0}) t s y.kind y) t.nodes P.kept.nodes no_message_node n h);
            held = (let z = R.offset-le (get_or firsts (n + 1) 0) (R.first-le (n + 1) (omega arith)) in omega (arith, from-to));
            roomy = omega arith;
            listed = omega (arith, R.outs_long);
            there = (λ i q. omega (arith, R.out-lt (f + i) (omega arith), R.offsets_long));
            fits = (λ i q.
                let d = get_or outs (f + i) 0 in
                let o : d ≡ get_or x.outgoing i 0 = R.out n i h q in
                let z : (direction_at t d).message_length ≡ 2 = ap (λ (j : ℕ). (direction_at t j).message_length) o ∙ (position i q).reversed.message_length ∙ two i q in
                omega (arith, z, R.offset_room d (R.out-lt (f + i) (omega arith))));
          }

      pub first-there : f < length offsets
      first-there = omega (arith, read-rows.offsets_long, read-rows.first-le n (omega arith))

      module _ (r_in r_new rest : List Float) (ein : length r_in ≡ width t.directions) (enew : length r_new ≡ width t.directions) where
        abbrev ms : List Message
        ms = cut t.directions r_in

        held-is : pairs (region (r_in ++ (r_new ++ rest)) (get_or offsets f 0) (2 * k)) ≡ messages_in x ms
        held-is =
            let z = read-rows.offset-le (get_or firsts (n + 1) 0) (read-rows.first-le (n + 1) (omega arith)) in
            ap pairs (region-front r_in (r_new ++ rest) (get_or offsets f 0) (2 * k) (omega (arith, from-to)))
            ∙ ap (λ (j : ℕ). pairs (region r_in (get_or offsets f 0) j)) (let y : 2 * k ≡ get_or offsets (get_or firsts (n + 1) 0) 0 - get_or offsets f 0 = omega (arith, from-to) in y)
            ∙ sym (held-pairs t kinds firsts starts outs offsets read-rows n h r_in ein two)

        pub variable_row : (b : LastBuild) → variable_sent (initial_belief s x.kind) outs offsets (width t.directions) f k (r_in ++ (r_new ++ rest))
            ≡ r_in ++ (sent t.directions x.outgoing (out_messages s t ms x b).messages r_new k ++ rest)
        variable_row b =
            let m = (out_messages s t ms x b).messages in
            let F : Sends t.directions x.outgoing m = sends_fit r_in ein b in
            puts_ext (r_in ++ (r_new ++ rest)) (place_of outs offsets (width t.directions) f) (λ i. length r_in + offset_at t.directions (get_or x.outgoing i 0))
            (λ i. out_message_variable (initial_belief s x.kind) (pairs (region (r_in ++ (r_new ++ rest)) (get_or offsets f 0) (2 * k))) i) (λ i. message_at i m) k
            (λ i q. omega (arith, ein, sends-at t kinds firsts starts outs offsets read-rows n h i q))
            (λ i q.
            let o = get_or x.outgoing i 0 in
            ap (λ (l : List Message). out_message_variable (initial_belief s x.kind) l i) held-is
            ∙ sym (variable_by x.kind v s (messages_in x ms) i (node_at t (direction_at t o).end).kind (message_at o ms))
            ∙ sym (out-at ms i q)
            ∙ plain_at ms b (variable_no_tree x.kind v) i q)
            ∙ puts_middle r_in r_new rest (λ i. offset_at t.directions (get_or x.outgoing i 0)) (λ i. message_at i m) k
            (λ i q. let T : Takes t.directions (get_or x.outgoing i 0) (message_at i m) = F.takes i q in omega (arith, T.long, offset_room t.directions (get_or x.outgoing i 0) T.there))
