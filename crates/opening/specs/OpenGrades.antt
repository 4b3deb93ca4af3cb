-- A grade at the opening: all its messages from one sum, each with the receiver's own left out.
use Rattle.std.specs.Prelude.{ℕ, ◌+◌, ◌-◌, ◌/◌, ◌≤◌, ◌<◌, ◌≡◌, refl, Bool, true, false, leb, Float, length, get_or}
use Rattle.std.proofs.Common.{arith, ◌∙◌, leb→le, le→leb}
use Rattle.std.proofs.Math.Path.{sym, ap}
use mathlib.Core.List.{List, [], ◌∷◌, map}
use Rattle.std.proofs.Math.Dec.{not_T}
use Rattle.std.specs.Float.Ieee.Bits.{is_true, is_false}
use Rattle.std.proofs.lemmas.List.{length-map}
use Rattle.definition.specs.Floats.{◌⊖◌, oneᶠ}
use Rattle.definition.specs.Vectors.{Message, binary}
use Rattle.definition.specs.Settings.{Settings}
use Rattle.definition.specs.FactorGraph.{Kind, grade, factor, input, tree}
use Rattle.definition.specs.Directions.{Direction, MessageNode, MessageGraph, no_message_node, node_at, message_at, messages_in}
use Rattle.definition.specs.Messages.{initial_belief}
use Rattle.definition.specs.Sweeps.{log_total, leave_one_out, opening_variable, opening_grade}
use Rattle.graph_laws.specs.AloneChecks.{All-getD}
use Rattle.graph_laws.specs.DirectionNumbers.{get_d_mapped}
use Rattle.graph_laws.specs.MessageLengths.{AllBinary, MessageNodeSound}
use Rattle.graph_laws.specs.MessageCounts.{message_messages_in}
use Rattle.graph_laws.specs.Sending.{Paired, MessageNodeKept}
use Rattle.graph_laws.specs.Unread.{length-messages_in}
use Rattle.list_laws.specs.Part.{region}
use Rattle.list_laws.specs.Put.{put}
use Rattle.messages.specs.Layout.{cut, kind_code}
use Rattle.messages.specs.LayoutOffsets.{long_at, TwoLong}
use Rattle.messages.specs.LayoutCut.{length_cut, directions_in, row_in, messages_in-cut}
use Rattle.messages.specs.LayoutPairs.{pairs, length-row_in-two}
use Rattle.messages.specs.LayoutWrite.{sent}
use Rattle.messages.specs.LayoutRows.{RowsRead}
use Rattle.messages.specs.LayoutWords.{row_in_lem, inside-row, held-pairs, message_cut}
use Rattle.messages.specs.LayoutSweeps.{Sends}
use Rattle.messages.specs.LayoutApart.{held_while_sending}
use Rattle.messages.specs.LayoutKinds.{grade-two}
use Rattle.messages.specs.State.{PartRows}
use Rattle.messages.specs.Variable.{left-two}
use Rattle.opening.specs.OpenRows.{SendRows, read}
use Rattle.opening.specs.OpenSends.{binary-at, sames, sent-more, two-sends}

-- ---- by the kind

grade-binary : (t : MessageGraph) (k : Kind) (x : MessageNode) → kind_code k ≡ 0 → MessageNodeSound t k x → AllBinary t x.outgoing
grade-binary t grade x e a = a
grade-binary t (factor d) x e a = absurd (let z : ⊥ = omega arith in z)
grade-binary t (input y) x e a = absurd (let z : ⊥ = omega arith in z)
grade-binary t (tree d) x e a = absurd (let z : ⊥ = omega arith in z)

abbrev Good : Message → Type 0
Good m = Unit {0}

grade-kept : (t : MessageGraph) (s : Settings) (k : Kind) (x : MessageNode) → kind_code k ≡ 0 → MessageNodeKept Good t s k x → Paired Good t x
grade-kept t s grade x e a = a
grade-kept t s (factor d) x e a = absurd (let z : ⊥ = omega arith in z)
grade-kept t s (input y) x e a = absurd (let z : ⊥ = omega arith in z)
grade-kept t s (tree d) x e a = absurd (let z : ⊥ = omega arith in z)

grade_belief : (s : Settings) (k : Kind) → kind_code k ≡ 0 → binary (oneᶠ ⊖ s.prior) s.prior ≡ initial_belief s k
unfolding initial_belief
grade_belief s grade e = refl
grade_belief s (factor d) e = absurd (let z : ⊥ = omega arith in z)
grade_belief s (input y) e = absurd (let z : ⊥ = omega arith in z)
grade_belief s (tree d) e = absurd (let z : ⊥ = omega arith in z)

-- ---- by the number of neighbours

by_count : (b : Message) (ms : List Message) (t : Bool) → leb (length ms) 1 ≡ t → opening_variable b ms ≡ elim t as (λ (u : Bool). List Message) [ true ↦ map (λ (m : Message). b) ms | false ↦ map (leave_one_out (log_total 0 b ms) (log_total 1 b ms)) ms ]
unfolding opening_variable
by_count b ms t e = ap (λ (u : Bool). elim u as (λ (v : Bool). List Message) [ true ↦ map (λ (m : Message). b) ms | false ↦ map (leave_one_out (log_total 0 b ms) (log_total 1 b ms)) ms ]) e

few : (b : Message) (ms : List Message) → length ms ≤ 1 → opening_variable b ms ≡ map (λ (m : Message). b) ms
few b ms h = by_count b ms true (is_true (leb (length ms) 1) (le→leb (length ms) 1 h))

many : (b : Message) (ms : List Message) → 1 < length ms → opening_variable b ms ≡ map (leave_one_out (log_total 0 b ms) (log_total 1 b ms)) ms
many b ms h = by_count b ms false (is_false (leb (length ms) 1) (not_T (leb (length ms) 1) (λ z. let l = leb→le (length ms) 1 z in omega arith)))

all_same : (b : Message) (ms : List Message) (os : List ℕ) → length ms ≡ length os → sames b os ≡ map (λ (m : Message). b) ms
all_same b [] [] e = refl
all_same b [] (o ∷ os) e = absurd (let z : ⊥ = omega arith in z)
all_same b (m ∷ ms) [] e = absurd (let z : ⊥ = omega arith in z)
all_same b (m ∷ ms) (o ∷ os) e = ap (λ (l : List Message). b ∷ l) (all_same b ms os (omega arith))

-- ---- in a row

module _ (s : Settings) (t : MessageGraph) (firsts outs offsets : List ℕ) (row₀ : List Float) (R : SendRows s t firsts outs offsets row₀) (n : ℕ) (h : n < length t.nodes) (c : kind_code (node_at t n).kind ≡ 0) where
  abbrev P : PartRows s t R.kinds firsts R.starts outs offsets R.labels R.evidence
  P = R.part

  Q : RowsRead t R.kinds firsts R.starts outs offsets
  Q = read s t firsts outs offsets row₀ R

  abbrev x : MessageNode
  x = node_at t n

  abbrev ds : List Direction
  ds = t.directions

  abbrev held : List Message
  held = messages_in x (cut ds row₀)

  pub grade_outgoing : AllBinary t (node_at t n).outgoing
  grade_outgoing = grade-binary t x.kind x c (All-getD (λ y. MessageNodeSound t y.kind y) t.nodes P.kept.sound.nodes no_message_node n h)

  two_in : TwoLong ds x.first_incoming (length x.outgoing)
  two_in = grade-two P.subgraph t P.consistent P.kept.sound n h c

  inside : x.first_incoming + length x.outgoing ≤ length ds
  inside = inside-row t R.kinds firsts R.starts outs offsets Q n h

  count : length held ≡ length x.outgoing
  count = length-messages_in x (cut ds row₀) (omega (arith, inside, length_cut ds row₀))

  module _ (p q : Float) where
    abbrev sends : List Message
    sends = map (leave_one_out p q) held

    sends-at : (i : ℕ) → i < length x.outgoing → message_at i sends ≡ leave_one_out p q (message_at i held)
    sends-at i l = get_d_mapped (leave_one_out p q) held i [] [] (omega (arith, count))

    sends-two : (i : ℕ) → i < length x.outgoing → length (message_at i sends) ≡ 2
    sends-two i l = ap length (sends-at i l) ∙ left-two p q (message_at i held)

    -- what the grade holds stays
    still : (row : List Float) (i : ℕ) → i ≤ length x.outgoing → row ≡ sent ds x.outgoing sends row₀ i → messages_in x (cut ds row) ≡ held
    still row i l e =
        messages_in-cut x ds row inside
        ∙ ap (cut (directions_in x ds))
        (ap (row_in x ds) e
        ∙ held_while_sending P.subgraph t P.consistent P.in_order n h sends row₀ i R.long l
        (λ k b. sends-two k (omega arith) ∙ sym (binary-at t x.outgoing k grade_outgoing (omega arith))))
        ∙ sym (messages_in-cut x ds row₀ inside)

    own : (row : List Float) (k : ℕ) → get_or firsts n 0 ≤ k → k < get_or firsts (n + 1) 0 → row ≡ sent ds x.outgoing sends row₀ (k - get_or firsts n 0) → region row (get_or offsets k 0) 2 ≡ message_at (k - get_or firsts n 0) held
    own row k a b e =
        let i = k - get_or firsts n 0 in
        let l : i < length x.outgoing = omega (arith, Q.degree n h) in
        let d : k < length ds = omega (arith, Q.first-le (n + 1) (omega arith)) in
        let g : k ≡ x.first_incoming + i = omega (arith, Q.first n h) in
        let w : 2 ≡ get_or offsets (k + 1) 0 - get_or offsets k 0 = omega (arith, Q.offset-next k d, two_in i l, ap (long_at ds) g) in
        ap (region row (get_or offsets k 0)) w
        ∙ sym (message_cut t R.kinds firsts R.starts outs offsets Q k d row)
        ∙ ap (λ (j : ℕ). message_at j (cut ds row)) g
        ∙ sym (message_messages_in x (cut ds row) i l)
        ∙ ap (message_at i) (still row i (omega arith) e)

    -- a loop over its positions
    pub left-next : (w w' : List Float) (m v : Message) (own_at o at k : ℕ) → get_or firsts n 0 ≤ k → k < get_or firsts (n + 1) 0 → w ≡ sent t.directions (node_at t n).outgoing (map (leave_one_out p q) (messages_in (node_at t n) (cut t.directions row₀))) row₀ (k - get_or firsts n 0)
        → own_at ≡ get_or offsets k 0 → m ≡ region w own_at 2 → v ≡ leave_one_out p q m → o ≡ get_or outs k 0 → at ≡ get_or offsets o 0 → w' ≡ put w at v
        → w' ≡ sent t.directions (node_at t n).outgoing (map (leave_one_out p q) (messages_in (node_at t n) (cut t.directions row₀))) row₀ (k + 1 - get_or firsts n 0)
    left-next w w' m v own_at o at k a b I e f g u y r =
        sent-more s t firsts outs offsets row₀ R n h sends w w' v o at k a b I u y r
        (g ∙ ap (leave_one_out p q) (f ∙ ap (λ (j : ℕ). region w j 2) e ∙ own w k a b I) ∙ sym (sends-at (k - get_or firsts n 0) (omega (arith, Q.degree n h))))

    pub left-sends : Sends t.directions (node_at t n).outgoing (map (leave_one_out p q) (messages_in (node_at t n) (cut t.directions row₀)))
    left-sends = two-sends s t firsts outs offsets row₀ R n h sends (length-map held (leave_one_out p q) ∙ count) grade_outgoing sends-two

  -- ---- what the grade sends, in the code's words

  abbrev pub held_row : List Float
  held_row = region row₀ (get_or offsets (get_or firsts n 0) 0) (get_or offsets (get_or firsts (n + 1) 0) 0 - get_or offsets (get_or firsts n 0) 0)

  held-is : held ≡ pairs held_row
  held-is = held-pairs t R.kinds firsts R.starts outs offsets Q n h row₀ R.long two_in

  pub held_few : length (region row₀ (get_or offsets (get_or firsts n 0) 0) (get_or offsets (get_or firsts (n + 1) 0) 0 - get_or offsets (get_or firsts n 0) 0)) / 2 ≤ 1024
  held_few =
      let e = ap length (row_in_lem t R.kinds firsts R.starts outs offsets Q n h row₀) in
      let K = grade-kept t s x.kind x c (All-getD (λ y. MessageNodeKept Good t s y.kind y) t.nodes P.kept.nodes no_message_node n h) in
      omega (arith, e, length-row_in-two x ds row₀ inside R.long two_in, K.few)

  module _ (prior : Float) (same : s.prior ≡ prior) where
    abbrev b : Message
    b = binary (oneᶠ ⊖ prior) prior

    belief : b ≡ initial_belief s x.kind
    belief = ap (λ (r : Float). binary (oneᶠ ⊖ r) r) (sym same) ∙ grade_belief s x.kind c

    pub grade_few : get_or firsts (n + 1) 0 ≤ get_or firsts n 0 + 1 → sames (binary (oneᶠ ⊖ prior) prior) (node_at t n).outgoing ≡ opening_grade s (node_at t n) (cut t.directions row₀)
    unfolding opening_grade
    grade_few l = all_same b held x.outgoing count ∙ sym (few b held (omega (arith, count, Q.degree n h))) ∙ ap (λ (m : Message). opening_variable m held) belief

    pub grade-many : get_or firsts n 0 + 1 < get_or firsts (n + 1) 0 → (p q : Float) → p ≡ log_total 0 (binary (oneᶠ ⊖ prior) prior) (pairs held_row) → q ≡ log_total 1 (binary (oneᶠ ⊖ prior) prior) (pairs held_row)
        → map (leave_one_out p q) (messages_in (node_at t n) (cut t.directions row₀)) ≡ opening_grade s (node_at t n) (cut t.directions row₀)
    unfolding opening_grade
    grade-many l p q e f =
        ap (λ (r : Float). map (leave_one_out r q) held) (e ∙ ap (log_total 0 b) (sym held-is))
        ∙ ap (λ (r : Float). map (leave_one_out (log_total 0 b held) r) held) (f ∙ ap (log_total 1 b) (sym held-is))
        ∙ sym (many b held (omega (arith, count, Q.degree n h)))
        ∙ ap (λ (m : Message). opening_variable m held) belief
