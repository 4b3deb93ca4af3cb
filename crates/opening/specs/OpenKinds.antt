-- The opening's three passes over the nodes: one node's turn by its kind's code, and the loop over all.
use Rattle.std.specs.Prelude.{ℕ, ◌+◌, ◌*◌, ◌≤◌, ◌<◌, ◌≡◌, Bool, true, false, List, map, Float, length, get_or, take}
use Rattle.std.proofs.Common.{arith, sym, ◌∙◌, take_all}
use Rattle.std.proofs.Math.Path.{refl, ap}
use Rattle.std.proofs.Math.Dec.{eqb}
use Rattle.std.specs.Float.{nan}
use Rattle.definition.specs.Floats.{zeroᶠ}
use Rattle.definition.specs.Vectors.{Message, binary}
use Rattle.definition.specs.Settings.{Settings}
use Rattle.definition.specs.FactorGraph.{Kind, grade, factor, input, tree, is_grade, is_factor, is_input}
use Rattle.definition.specs.Directions.{MessageNode, MessageGraph, no_message_node, node_at, set_messages}
use Rattle.definition.specs.Messages.{initial_belief}
use Rattle.definition.specs.Sweeps.{update_kind, opening_input}
use Rattle.graph_laws.specs.AloneChecks.{All-getD}
use Rattle.graph_laws.specs.MessageLengths.{AllBinary, MessageNodeSound}
use Rattle.list_laws.specs.Part.{region}
use Rattle.messages.specs.Layout.{cut, width, kind_code}
use Rattle.messages.specs.LayoutLists.{get_d_any}
use Rattle.messages.specs.LayoutRows.{RowsRead, rows-read}
use Rattle.messages.specs.LayoutKinds.{code-grade, code-factor, code_input}
use Rattle.messages.specs.LayoutSweeps.{kind_step, kind-next}
use Rattle.messages.specs.State.{HasEvidence, PartRows}
use Rattle.opening.specs.OpenRows.{SendRows, FactorRows}
use Rattle.opening.specs.OpenSends.{region-two}

-- ---- a turn by the code

module _ (p : Kind → Bool) (f : MessageNode → List Message → List Message) (x : MessageNode) (ms : List Message) where
  pub turn-taken : p x.kind ≡ true → set_messages x.outgoing (f x ms) ms ≡ kind_step p f x ms
  turn-taken e = sym (ap (λ (b : Bool). elim b as (λ (c : Bool). List Message) [ true ↦ set_messages x.outgoing (f x ms) ms | false ↦ ms ]) e)

-- ---- the loop

module _ (p : Kind → Bool) (f : MessageNode → List Message → List Message) (t : MessageGraph) where
  pub kinds-start : (ms : List Message) → ms ≡ update_kind p f (take 0 t.nodes) ms
  unfolding update_kind
  kinds-start ms = refl

  pub kinds-next : (ms l m : List Message) (n : ℕ) → n < length t.nodes → l ≡ update_kind p f (take n t.nodes) ms → m ≡ kind_step p f (node_at t n) l → m ≡ update_kind p f (take (n + 1) t.nodes) ms
  kinds-next ms l m n h e g = g ∙ ap (kind_step p f (node_at t n)) e ∙ sym (kind-next p f t ms n h)

  pub kinds-end : (ms l : List Message) (n : ℕ) → length t.nodes ≤ n → l ≡ update_kind p f (take n t.nodes) ms → l ≡ update_kind p f t.nodes ms
  kinds-end ms l n h e = e ∙ ap (λ (xs : List MessageNode). update_kind p f xs ms) (take_all n t.nodes h)

-- ---- the inputs

pub record InputsRows (s : Settings) (t : MessageGraph) (kinds firsts outs offsets labels : List ℕ) (evidence row : List Float) : Type 0 where
  pub starts : List ℕ
  pub part : PartRows s t kinds firsts starts outs offsets labels evidence
  pub long : length row ≡ width t.directions

pub record SomeInputsRows (kinds firsts outs offsets labels : List ℕ) (evidence row : List Float) : Type 0 where
  pub settings : Settings
  pub graph : MessageGraph
  pub rows : InputsRows settings graph kinds firsts outs offsets labels evidence row

pub inputs_again : {kinds firsts outs offsets labels : List ℕ} {evidence row row' : List Float} {s : Settings} {t : MessageGraph} → InputsRows s t kinds firsts outs offsets labels evidence row → length row' ≡ length row → InputsRows s t kinds firsts outs offsets labels evidence row'
inputs_again R e = record { starts = R.starts; part = R.part; long = e ∙ R.long }

pub some_inputs_again : {kinds firsts outs offsets labels : List ℕ} {evidence row row' : List Float} → SomeInputsRows kinds firsts outs offsets labels evidence row → length row' ≡ length row → SomeInputsRows kinds firsts outs offsets labels evidence row'
some_inputs_again S e = record { settings = S.settings; graph = S.graph; rows = inputs_again S.rows e }

input_belief : (s : Settings) (k : Kind) (m : ℕ) (es : List Float) → kind_code k ≡ 2 → HasEvidence k m es → (2 * m + 1 < length es) × (region es (2 * m) 2 ≡ initial_belief s k)
unfolding initial_belief
input_belief s grade m es c h = absurd (let z : ⊥ = omega arith in z)
input_belief s (factor d) m es c h = absurd (let z : ⊥ = omega arith in z)
input_belief s (tree d) m es c h = absurd (let z : ⊥ = omega arith in z)
input_belief s (input e) m es c h = (
  h.0,
  sym (region-two es (2 * m) h.0)
      ∙ ap (λ (v : Float). binary v (get_or es (2 * m + 1) nan)) (get_d_any es (2 * m) nan zeroᶠ (omega (arith, h.0)) ∙ sym h.1)
      ∙ ap (λ (v : Float). binary e.absent v) (get_d_any es (2 * m + 1) nan zeroᶠ h.0 ∙ sym h.2),
)

input_binary : (t : MessageGraph) (k : Kind) (x : MessageNode) → kind_code k ≡ 2 → MessageNodeSound t k x → AllBinary t x.outgoing
input_binary t grade x e a = absurd (let z : ⊥ = omega arith in z)
input_binary t (factor d) x e a = absurd (let z : ⊥ = omega arith in z)
input_binary t (input y) x e a = a
input_binary t (tree d) x e a = absurd (let z : ⊥ = omega arith in z)

module _ (s : Settings) (t : MessageGraph) (kinds firsts outs offsets labels : List ℕ) (evidence row : List Float) (R : InputsRows s t kinds firsts outs offsets labels evidence row) (n : ℕ) (l : n < length kinds) where
  inputs_read : RowsRead t kinds firsts R.starts outs offsets
  inputs_read = let P = R.part in rows-read P.subgraph t P.consistent P.in_order kinds firsts R.starts outs offsets P.rows

  pub inputs_node : n < length t.nodes
  inputs_node = omega (arith, inputs_read.kinds-long)

  pub inputs_send : SendRows s t firsts outs offsets row
  inputs_send = record { kinds = kinds; starts = R.starts; labels = labels; evidence = evidence; part = R.part; long = R.long }

  module _ (k : get_or kinds n 0 ≡ 2) where
    code : kind_code (node_at t n).kind ≡ 2
    code = sym (inputs_read.kind n inputs_node) ∙ k

    pub input_outgoing : AllBinary t (node_at t n).outgoing
    input_outgoing = input_binary t (node_at t n).kind (node_at t n) code (All-getD (λ y. MessageNodeSound t y.kind y) t.nodes R.part.kept.sound.nodes no_message_node n inputs_node)

    pub input_taken : (b : Message) → b ≡ region evidence (2 * get_or labels n 0) 2 → (ms : List Message) → ms ≡ set_messages (node_at t n).outgoing (map (λ (o : ℕ). b) (node_at t n).outgoing) (cut t.directions row)
        → ms ≡ kind_step is_input (opening_input s) (node_at t n) (cut t.directions row)
    unfolding opening_input
    input_taken b e ms r =
        r
        ∙ ap (λ (m : Message). set_messages (node_at t n).outgoing (map (λ (o : ℕ). m) (node_at t n).outgoing) (cut t.directions row)) (e ∙ (input_belief s (node_at t n).kind (get_or labels n 0) evidence code (R.part.inputs n inputs_node)).1)
        ∙ turn-taken is_input (opening_input s) (node_at t n) (cut t.directions row) (code_input (node_at t n).kind ∙ ap (λ (c : ℕ). eqb c 2) code)

-- ---- the factors

pub record SomeFactorsRows (kinds firsts starts outs offsets : List ℕ) (row : List Float) : Type 0 where
  pub settings : Settings
  pub graph : MessageGraph
  pub rows : FactorRows settings graph kinds firsts starts outs offsets row

pub factors_again : {kinds firsts starts outs offsets : List ℕ} {row row' : List Float} {s : Settings} {t : MessageGraph} → FactorRows s t kinds firsts starts outs offsets row → length row' ≡ length row → FactorRows s t kinds firsts starts outs offsets row'
factors_again R e = record { labels = R.labels; evidence = R.evidence; part = R.part; long = e ∙ R.long }

pub some_factors_again : {kinds firsts starts outs offsets : List ℕ} {row row' : List Float} → SomeFactorsRows kinds firsts starts outs offsets row → length row' ≡ length row → SomeFactorsRows kinds firsts starts outs offsets row'
some_factors_again S e = record { settings = S.settings; graph = S.graph; rows = factors_again S.rows e }

module _ (s : Settings) (t : MessageGraph) (kinds firsts starts outs offsets : List ℕ) (row : List Float) (R : FactorRows s t kinds firsts starts outs offsets row) (n : ℕ) (l : n < length kinds) where
  factors_read : RowsRead t kinds firsts starts outs offsets
  factors_read = let P = R.part in rows-read P.subgraph t P.consistent P.in_order kinds firsts starts outs offsets P.rows

  pub factors_node : n < length t.nodes
  factors_node = omega (arith, factors_read.kinds-long)

  pub factor-code : get_or kinds n 0 ≡ 1 → kind_code (node_at t n).kind ≡ 1
  factor-code k = sym (factors_read.kind n factors_node) ∙ k

  pub factor-taken : (f : MessageNode → List Message → List Message) → get_or kinds n 0 ≡ 1 → (ms : List Message) → ms ≡ set_messages (node_at t n).outgoing (f (node_at t n) (cut t.directions row)) (cut t.directions row)
      → ms ≡ kind_step is_factor f (node_at t n) (cut t.directions row)
  factor-taken f k ms r = r ∙ turn-taken is_factor f (node_at t n) (cut t.directions row) (code-factor (node_at t n).kind ∙ ap (λ (c : ℕ). eqb c 1) (factor-code k))

-- ---- the grades

pub record GradesRows (s : Settings) (t : MessageGraph) (kinds firsts outs offsets : List ℕ) (row : List Float) : Type 0 where
  pub starts : List ℕ
  pub labels : List ℕ
  pub evidence : List Float
  pub part : PartRows s t kinds firsts starts outs offsets labels evidence
  pub long : length row ≡ width t.directions

pub record SomeGradesRows (kinds firsts outs offsets : List ℕ) (row : List Float) : Type 0 where
  pub settings : Settings
  pub graph : MessageGraph
  pub rows : GradesRows settings graph kinds firsts outs offsets row

pub grades_again : {kinds firsts outs offsets : List ℕ} {row row' : List Float} {s : Settings} {t : MessageGraph} → GradesRows s t kinds firsts outs offsets row → length row' ≡ length row → GradesRows s t kinds firsts outs offsets row'
grades_again R e = record { starts = R.starts; labels = R.labels; evidence = R.evidence; part = R.part; long = e ∙ R.long }

pub some-grades_again : {kinds firsts outs offsets : List ℕ} {row row' : List Float} → SomeGradesRows kinds firsts outs offsets row → length row' ≡ length row → SomeGradesRows kinds firsts outs offsets row'
some-grades_again S e = record { settings = S.settings; graph = S.graph; rows = grades_again S.rows e }

module _ (s : Settings) (t : MessageGraph) (kinds firsts outs offsets : List ℕ) (row : List Float) (R : GradesRows s t kinds firsts outs offsets row) (n : ℕ) (l : n < length kinds) where
  grades-read : RowsRead t kinds firsts R.starts outs offsets
  grades-read = let P = R.part in rows-read P.subgraph t P.consistent P.in_order kinds firsts R.starts outs offsets P.rows

  pub grades-node : n < length t.nodes
  grades-node = omega (arith, grades-read.kinds-long)

  pub grades_send : SendRows s t firsts outs offsets row
  grades_send = record { kinds = kinds; starts = R.starts; labels = R.labels; evidence = R.evidence; part = R.part; long = R.long }

  pub grade-code : get_or kinds n 0 ≡ 0 → kind_code (node_at t n).kind ≡ 0
  grade-code k = sym (grades-read.kind n grades-node) ∙ k

  pub grade-taken : (f : MessageNode → List Message → List Message) → get_or kinds n 0 ≡ 0 → (ms : List Message) → ms ≡ set_messages (node_at t n).outgoing (f (node_at t n) (cut t.directions row)) (cut t.directions row)
      → ms ≡ kind_step is_grade f (node_at t n) (cut t.directions row)
  grade-taken f k ms r = r ∙ turn-taken is_grade f (node_at t n) (cut t.directions row) (code-grade (node_at t n).kind ∙ ap (λ (c : ℕ). eqb c 0) (grade-code k))

-- after as many turns as there are kinds there is no node left
pub inputs_last : (s : Settings) (t : MessageGraph) (kinds firsts outs offsets labels : List ℕ) (evidence row : List Float) → InputsRows s t kinds firsts outs offsets labels evidence row → (n : ℕ) → length kinds ≤ n → length t.nodes ≤ n
inputs_last s t kinds firsts outs offsets labels evidence row R n h =
    let P = R.part in
    omega (arith, (rows-read P.subgraph t P.consistent P.in_order kinds firsts R.starts outs offsets P.rows).kinds-long)

-- after as many turns as there are kinds there is no node left
pub factors_last : (s : Settings) (t : MessageGraph) (kinds firsts starts outs offsets : List ℕ) (row : List Float) → FactorRows s t kinds firsts starts outs offsets row → (n : ℕ) → length kinds ≤ n → length t.nodes ≤ n
factors_last s t kinds firsts starts outs offsets row R n h =
    let P = R.part in
    omega (arith, (rows-read P.subgraph t P.consistent P.in_order kinds firsts starts outs offsets P.rows).kinds-long)

-- after as many turns as there are kinds there is no node left
pub grades-last : (s : Settings) (t : MessageGraph) (kinds firsts outs offsets : List ℕ) (row : List Float) → GradesRows s t kinds firsts outs offsets row → (n : ℕ) → length kinds ≤ n → length t.nodes ≤ n
grades-last s t kinds firsts outs offsets row R n h =
    let P = R.part in
    omega (arith, (rows-read P.subgraph t P.consistent P.in_order kinds firsts R.starts outs offsets P.rows).kinds-long)
