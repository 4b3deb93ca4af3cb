-- What one node adds to the beliefs: a grade its own, by the messages that it holds, and another node none.
use Rattle.std.specs.Prelude.{ℕ, suc, ◌+◌, ◌-◌, ◌/◌, ◌≤◌, ◌<◌, ◌≡◌, refl, true, false, Float, length, get_or, take, drop}
use Rattle.std.proofs.Common.{add-one, arith, ◌∙◌, inl, length-append, take-append-drop, take-suc, take_all, length-take-le}
use Rattle.std.proofs.Math.Path.{sym, ap}
use mathlib.Core.List.{List, [], ◌∷◌, ◌++◌}
use Rattle.definition.specs.Floats.{◌⊖◌, oneᶠ}
use Rattle.definition.specs.Settings.{Settings}
use Rattle.definition.specs.FactorGraph.{Node, grade_node, factor_node, input_node, tree_node, Kind, grade, factor, input, tree, is_grade}
use Rattle.definition.specs.Vectors.{Message, binary}
use Rattle.definition.specs.Directions.{MessageNode, MessageGraph, no_message_node, node_at, messages_in}
use Rattle.definition.specs.Messages.{initial_belief}
use Rattle.definition.specs.Answer.{Belief, marginal, beliefs_among}
use Rattle.graph_laws.specs.DirectionNumbers.{get_d_mapped}
use Rattle.graph_laws.specs.Lists.{append_none}
use Rattle.list_laws.specs.Part.{region, length-region}
use Rattle.factor_graph.specs.Words.{label, kind_code}
use Rattle.messages.specs.Layout.{width}
use Rattle.messages.specs.LayoutOffsets.{TwoLong}
use Rattle.messages.specs.LayoutPairs.{pairs, length-row_in-two}
use Rattle.messages.specs.LayoutRows.{RowsRead}
use Rattle.messages.specs.LayoutWords.{inside-row, row_in_lem, held-pairs}
use Rattle.messages.specs.LayoutKinds.{grade-two}
use Rattle.sweeps.specs.SweepRows.{region-front, read-rows, variable_fits}
use Rattle.steps.specs.StepLog.{words_of, NodeIn, node_in, total-is, begins_at, ends_at}
use Rattle.part.specs.Named.{is_grade_node}
use Rattle.part.specs.Beliefs.{NodeHeld, BeliefRows}

-- ---- lists of nodes, one after the other

among_append : (s : Settings) (ms : List Message) (ps qs : List Node) (xs ys : List MessageNode) → length ps ≡ length xs → beliefs_among s ms (ps ++ qs) (xs ++ ys) ≡ beliefs_among s ms ps xs ++ beliefs_among s ms qs ys
unfolding beliefs_among
among_append s ms [] qs [] ys e = refl
among_append s ms [] qs (x ∷ xs) ys e = absurd (let z : ⊥ = omega arith in z)
among_append s ms (n ∷ ps) qs [] ys e = absurd (let z : ⊥ = omega arith in z)
among_append s ms (grade_node g ∷ ps) qs (x ∷ xs) ys e =
    ap (λ (l : List Belief). record { grade = g; value = marginal (initial_belief s grade) (messages_in x ms) } ∷ l) (among_append s ms ps qs xs ys (omega arith))
among_append s ms (factor_node m ∷ ps) qs (x ∷ xs) ys e = among_append s ms ps qs xs ys (omega arith)
among_append s ms (input_node m ∷ ps) qs (x ∷ xs) ys e = among_append s ms ps qs xs ys (omega arith)
among_append s ms (tree_node m ∷ ps) qs (x ∷ xs) ys e = among_append s ms ps qs xs ys (omega arith)

one-grade : (s : Settings) (ms : List Message) (n : Node) (x : MessageNode) → is_grade_node n ≡ true
    → beliefs_among s ms (n ∷ []) (x ∷ []) ≡ record { grade = label n; value = marginal (initial_belief s grade) (messages_in x ms) } ∷ []
unfolding beliefs_among
one-grade s ms (grade_node g) x e = refl
one-grade s ms (factor_node m) x e = absurd (let z : ◌≡◌ {A = ℕ} 0 1 = cc in let y : ⊥ = omega arith in y)
one-grade s ms (input_node m) x e = absurd (let z : ◌≡◌ {A = ℕ} 0 1 = cc in let y : ⊥ = omega arith in y)
one-grade s ms (tree_node m) x e = absurd (let z : ◌≡◌ {A = ℕ} 0 1 = cc in let y : ⊥ = omega arith in y)

one_other : (s : Settings) (ms : List Message) (n : Node) (x : MessageNode) → is_grade_node n ≡ false → beliefs_among s ms (n ∷ []) (x ∷ []) ≡ []
unfolding beliefs_among
one_other s ms (grade_node g) x e = absurd (let z : ◌≡◌ {A = ℕ} 0 1 = cc in let y : ⊥ = omega arith in y)
one_other s ms (factor_node m) x e = refl
one_other s ms (input_node m) x e = refl
one_other s ms (tree_node m) x e = refl

code-grade : (k : Kind) → kind_code k ≡ 0 → is_grade k ≡ true
code-grade grade e = refl
code-grade (factor d) e = absurd (let z : ⊥ = omega arith in z)
code-grade (input y) e = absurd (let z : ⊥ = omega arith in z)
code-grade (tree d) e = absurd (let z : ⊥ = omega arith in z)

code_other : (k : Kind) → (kind_code k ≡ 0 → ⊥) → is_grade k ≡ false
code_other grade e = absurd (e refl)
code_other (factor d) e = refl
code_other (input y) e = refl
code_other (tree d) e = refl

module _ (s : Settings) (t : MessageGraph) (ms : List Message) (ns : List Node) (kinds labels firsts offsets : List ℕ) (w : List Float)
    (R : BeliefRows s t ms ns kinds labels firsts offsets w) where
  Q : RowsRead t kinds firsts R.starts R.outs offsets
  Q = read-rows s t kinds firsts R.starts R.outs offsets labels R.evidence R.rows

  pub kinds_count : length kinds ≡ length t.nodes
  kinds_count = Q.kinds-long

  -- the beliefs of the first n nodes
  abbrev before : ℕ → List Belief
  before n = beliefs_among s ms (take n ns) (take n t.nodes)

  pub before-all : (n : ℕ) → n ≡ length kinds → beliefs_among s ms (take n ns) (take n t.nodes) ≡ beliefs_among s ms ns t.nodes
  before-all n e =
      ap (λ (l : List Node). beliefs_among s ms l (take n t.nodes)) (take_all n ns (omega (arith, R.named.long, kinds_count)))
      ∙ ap (λ (l : List MessageNode). beliefs_among s ms ns l) (take_all n t.nodes (omega (arith, kinds_count)))

  module _ (n : ℕ) (h : n < length kinds) where
    there : n < length t.nodes
    there = omega (arith, kinds_count)

    named : n < length ns
    named = omega (arith, kinds_count, R.named.long)

    abbrev x : MessageNode
    x = node_at t n

    abbrev name : Node
    name = get_or ns n (grade_node 0)

    front : (m : ℕ) → m ≤ length t.nodes → length (take m ns) ≡ length (take m t.nodes)
    front m l = length-take-le m ns (omega (arith, R.named.long)) ∙ sym (length-take-le m t.nodes l)

    next : before (n + 1) ≡ before n ++ beliefs_among s ms (name ∷ []) (x ∷ [])
    next =
        ap before (add-one n)
        ∙ ap (λ (l : List Node). beliefs_among s ms l (take (suc n) t.nodes)) (take-suc ns n (grade_node 0) named)
        ∙ ap (λ (l : List MessageNode). beliefs_among s ms (take n ns ++ (name ∷ [])) l) (take-suc t.nodes n no_message_node there)
        ∙ among_append s ms (take n ns) (name ∷ []) (take n t.nodes) (x ∷ []) (front n (omega (arith, there)))

    -- the first so many beliefs are no more than all
    before_few : (m : ℕ) → m ≤ length t.nodes → length (before m) ≤ length (beliefs_among s ms ns t.nodes)
    before_few m l =
        let e : beliefs_among s ms ns t.nodes ≡ before m ++ beliefs_among s ms (drop m ns) (drop m t.nodes) =
        ap (λ (u : List Node). beliefs_among s ms u t.nodes) (sym (take-append-drop m ns))
        ∙ ap (λ (u : List MessageNode). beliefs_among s ms (take m ns ++ drop m ns) u) (sym (take-append-drop m t.nodes))
        ∙ among_append s ms (take m ns) (drop m ns) (take m t.nodes) (drop m t.nodes) (front m l) in
        omega (arith, ap length e, length-append (before m) (beliefs_among s ms (drop m ns) (drop m t.nodes)))

    pub other_next : (get_or kinds n 0 ≡ 0 → ⊥) → beliefs_among s ms (take n ns) (take n t.nodes) ≡ beliefs_among s ms (take (n + 1) ns) (take (n + 1) t.nodes)
    other_next k =
        let e : is_grade_node name ≡ false = sym (R.named.kinds n named) ∙ code_other x.kind (λ (z : kind_code x.kind ≡ 0). k (Q.kind n there ∙ z)) in
        sym (next ∙ ap (λ (l : List Belief). before n ++ l) (one_other s ms name x e) ∙ append_none (before n))

    module _ (k : get_or kinds n 0 ≡ 0) where
      code : kind_code x.kind ≡ 0
      code = sym (Q.kind n there) ∙ k

      two : TwoLong t.directions x.first_incoming (length x.outgoing)
      two = grade-two R.rows.subgraph t R.rows.consistent R.rows.kept.sound n there code

      inside : NodeIn firsts offsets n
      inside = node_in firsts R.starts offsets (words_of s t kinds firsts R.starts R.outs offsets labels R.evidence R.rows) n (omega (arith, there, Q.firsts-long))

      ends : ends_at firsts offsets n ≤ length R.r_in
      ends = omega (arith, inside.ends, total-is firsts R.starts offsets (words_of s t kinds firsts R.starts R.outs offsets labels R.evidence R.rows), R.long)

      abbrev o : ℕ
      o = begins_at firsts offsets n

      abbrev span : ℕ
      span = ends_at firsts offsets n - begins_at firsts offsets n

      few : span / 2 ≤ 1024
      few =
          let W = width t.directions in
          let i = inside-row t kinds firsts R.starts R.outs offsets Q n there in
          let e = ap length (row_in_lem t kinds firsts R.starts R.outs offsets Q n there R.r_in) in
          let P = variable_fits s t kinds firsts R.starts R.outs offsets labels R.evidence R.rows n there (inl code) (W + W) (omega arith) in
          omega (arith, e, length-row_in-two x t.directions R.r_in i R.long two, P.few, length-region R.r_in o span (omega (arith, inside.in_turn, ends)))

      pub grade-held : NodeHeld firsts offsets n (length w)
      grade-held =
          record { node = inside; inside = omega (arith, ends, ap length R.is, length-append R.r_in R.rest); few = few }

      pub grade-marginal : (prior : Float) → s.prior ≡ prior
          → marginal (binary (oneᶠ ⊖ prior) prior) (pairs (region w (begins_at firsts offsets n) (ends_at firsts offsets n - begins_at firsts offsets n))) ≡ marginal (initial_belief s grade) (messages_in (node_at t n) ms)
      unfolding initial_belief
      grade-marginal prior p =
          ap (λ (f : Float). marginal (binary (oneᶠ ⊖ f) f) (pairs (region w o span))) (sym p)
          ∙ ap (λ (l : List Message). marginal (binary (oneᶠ ⊖ s.prior) s.prior) l)
          (ap (λ (v : List Float). pairs (region v o span)) R.is
          ∙ ap pairs (region-front R.r_in R.rest o span (omega (arith, inside.in_turn, ends)))
          ∙ sym (held-pairs t kinds firsts R.starts R.outs offsets Q n there R.r_in R.long two)
          ∙ ap (messages_in x) (sym R.messages))

      pub grade-next : beliefs_among s ms (take (n + 1) ns) (take (n + 1) t.nodes)
          ≡ beliefs_among s ms (take n ns) (take n t.nodes) ++ (record { grade = get_or labels n 0; value = marginal (initial_belief s grade) (messages_in (node_at t n) ms) } ∷ [])
      grade-next =
          let e : is_grade_node name ≡ true = sym (R.named.kinds n named) ∙ code-grade x.kind code in
          let l : label name ≡ get_or labels n 0 = sym (ap (λ (u : List ℕ). get_or u n 0) R.named.labels_are ∙ get_d_mapped label ns n (grade_node 0) 0 named) in
          next
          ∙ ap (λ (u : List Belief). before n ++ u) (one-grade s ms name x e)
          ∙ ap (λ (g : ℕ). before n ++ (record { grade = g; value = marginal (initial_belief s grade) (messages_in x ms) } ∷ [])) l

      pub grade_room : length (beliefs_among s ms (take n ns) (take n t.nodes)) < length (beliefs_among s ms ns t.nodes)
      grade_room =
          let b : Belief = record { grade = get_or labels n 0; value = marginal (initial_belief s grade) (messages_in x ms) } in
          omega (arith, before_few (n + 1) (omega (arith, there)), ap length grade-next, length-append (before n) (b ∷ []))
