-- The belief that a grade or an input starts with, read from the part's words, the evidence and the prior.
use Rattle.std.specs.Prelude.{ℕ, ◌+◌, ◌*◌, ◌<◌, ◌≡◌, List, Float, length, get_or}
use native.Mathlib.Omega.{arith}
use Rattle.std.proofs.Math.Path.{refl, sym, ap}
use Rattle.std.proofs.Common.{◌∙◌, ⊎_elim}
use Rattle.std.specs.Float.Ieee.{nan}
use Rattle.definition.specs.Floats.{◌⊖◌, zeroᶠ, oneᶠ}
use Rattle.definition.specs.Vectors.{binary}
use Rattle.definition.specs.Settings.{Settings}
use Rattle.definition.specs.FactorGraph.{Kind, grade, factor, input, tree}
use Rattle.definition.specs.Directions.{MessageGraph, node_at}
use Rattle.definition.specs.Messages.{initial_belief}
use Rattle.list_laws.specs.Part.{get_d_region}
use Rattle.messages.specs.Layout.{kind_code}
use Rattle.messages.specs.LayoutLists.{get_d_any}
use Rattle.messages.specs.LayoutRows.{rows-read}
use Rattle.messages.specs.DirectionsRead.{labels_row}
use Rattle.messages.specs.State.{HasEvidence}
use Rattle.sweeps.specs.SweepRows.{IsVariable}
use Rattle.zero_lookahead.specs.Part.{PartWords}

pub record SomeVariable (words : List ℕ) (evidence : List Float) (n : ℕ) : Type 0 where
  pub settings : Settings
  pub graph : MessageGraph
  pub out : ℕ
  pub part : PartWords settings graph out evidence words
  pub node : n < length graph.nodes
  pub variable : IsVariable (node_at graph n).kind

module _ (s : Settings) (t : MessageGraph) (out : ℕ) (evidence : List Float) (words : List ℕ) (P : PartWords s t out evidence words) (n : ℕ) (h : n < length t.nodes) where
  -- the words that are read are there
  pub label_room : (n < get_or words 0 0) × (2 + get_or words 0 0 + n < length words)
  label_room = (omega (arith, P.nodes), omega (arith, P.nodes, P.behind, P.room))

  pub kind_word : get_or words (2 + n) 0 ≡ kind_code (node_at t n).kind
  kind_word =
      sym (get_d_region words 2 (get_or words 0 0) n 0 label_room.0)
      ∙ (let R = P.rows in (rows-read R.subgraph t R.consistent R.in_order _ _ _ _ _ R.rows).kind n h)

  label_word : get_or (labels_row words 0) n 0 ≡ get_or words (2 + get_or words 0 0 + n) 0
  label_word = get_d_region words (2 + get_or words 0 0) (get_or words 0 0) n 0 label_room.0

  evidence-at : HasEvidence (node_at t n).kind (get_or words (2 + get_or words 0 0 + n) 0) evidence
  evidence-at = rw (sym label_word) (P.rows.inputs n h)

  -- an input's two floats are there
  input_room : (k : Kind) (m : ℕ) → kind_code k ≡ 2 → HasEvidence k m evidence → 2 * m + 1 < length evidence
  input_room grade m e r = absurd (let z : ⊥ = omega arith in z)
  input_room (factor d) m e r = absurd (let z : ⊥ = omega arith in z)
  input_room (tree d) m e r = absurd (let z : ⊥ = omega arith in z)
  input_room (input v) m e r = r.0

  pub evidence_room : get_or words (2 + n) 0 ≡ 2 → 2 * get_or words (2 + get_or words 0 0 + n) 0 + 1 < length evidence
  evidence_room e = input_room (node_at t n).kind (get_or words (2 + get_or words 0 0 + n) 0) (sym kind_word ∙ e) evidence-at

  -- and are its belief
  input_is : (k : Kind) (m : ℕ) → kind_code k ≡ 2 → HasEvidence k m evidence → binary (get_or evidence (2 * m) nan) (get_or evidence (2 * m + 1) nan) ≡ initial_belief s k
  unfolding initial_belief
  input_is grade m e r = absurd (let z : ⊥ = omega arith in z)
  input_is (factor d) m e r = absurd (let z : ⊥ = omega arith in z)
  input_is (tree d) m e r = absurd (let z : ⊥ = omega arith in z)
  input_is (input v) m e r =
      ap (λ (x : Float). binary x (get_or evidence (2 * m + 1) nan)) (get_d_any evidence (2 * m) nan zeroᶠ (omega (arith, r.0)) ∙ sym r.1)
      ∙ ap (binary v.absent) (get_d_any evidence (2 * m + 1) nan zeroᶠ r.0 ∙ sym r.2)

  pub input_belief : get_or words (2 + n) 0 ≡ 2
      → binary (get_or evidence (2 * get_or words (2 + get_or words 0 0 + n) 0) nan) (get_or evidence (2 * get_or words (2 + get_or words 0 0 + n) 0 + 1) nan) ≡ initial_belief s (node_at t n).kind
  input_belief e = input_is (node_at t n).kind (get_or words (2 + get_or words 0 0 + n) 0) (sym kind_word ∙ e) evidence-at

  grade-is : (k : Kind) → kind_code k ≡ 0 → binary (oneᶠ ⊖ s.prior) s.prior ≡ initial_belief s k
  unfolding initial_belief
  grade-is grade e = refl
  grade-is (factor d) e = absurd (let z : ⊥ = omega arith in z)
  grade-is (input v) e = absurd (let z : ⊥ = omega arith in z)
  grade-is (tree d) e = absurd (let z : ⊥ = omega arith in z)

  pub grade_belief : (prior : Float) → s.prior ≡ prior → (get_or words (2 + n) 0 ≡ 2 → ⊥) → IsVariable (node_at t n).kind → binary (oneᶠ ⊖ prior) prior ≡ initial_belief s (node_at t n).kind
  grade_belief prior e f v =
      ap (λ (x : Float). binary (oneᶠ ⊖ x) x) (sym e) ∙ ⊎_elim (λ z. grade-is (node_at t n).kind z) (λ z. absurd (f (kind_word ∙ z))) v

-- as the code reads it: k the node's kind, m the number of nodes, l the node's label
module _ (words : List ℕ) (evidence : List Float) (n k m l : ℕ) (ek : k ≡ get_or words (2 + n) 0) (em : m ≡ get_or words 0 0) (el : l ≡ get_or words (2 + m + n) 0) where
  label_is : l ≡ get_or words (2 + get_or words 0 0 + n) 0
  label_is = el ∙ ap (λ (i : ℕ). get_or words (2 + i + n) 0) em

  pub evidence-there : SomeVariable words evidence n → k ≡ 2 → 2 * l + 1 < length evidence
  evidence-there S e =
      omega (arith, label_is, evidence_room S.settings S.graph S.out evidence words S.part n S.node (sym ek ∙ e))

  pub input_read : k ≡ 2 → (s : Settings) (t : MessageGraph) (out : ℕ) → PartWords s t out evidence words → n < length t.nodes → binary (get_or evidence (2 * l) nan) (get_or evidence (2 * l + 1) nan) ≡ initial_belief s (node_at t n).kind
  input_read e s t out P h =
      ap (λ (i : ℕ). binary (get_or evidence (2 * i) nan) (get_or evidence (2 * i + 1) nan)) label_is ∙ input_belief s t out evidence words P n h (sym ek ∙ e)
