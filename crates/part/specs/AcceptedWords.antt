-- The labels of a part stand in its record, and each of its inputs finds its evidence by its label.
use Rattle.std.specs.Prelude.{◌≡◌, refl, List, [], ◌∷◌, ◌++◌, map, ℕ, zero, suc, ◌+◌, ◌*◌, ◌<◌, eqb, Float, length, get_or}
use Rattle.std.proofs.Common.{sym, ap, ◌∙◌, subst, arith}
use Rattle.std.proofs.lemmas.List.{length-map}
use Rattle.definition.specs.Floats.{zeroᶠ}
use Rattle.definition.specs.Lists.{concat, index_of}
use Rattle.definition.specs.FactorGraph.{Bale, Evidence, Node, grade_node, factor_node, input_node, tree_node, eq_node, marker_numbers, input, no_evidence, kind_of}
use Rattle.definition.specs.Components.{SubgraphNode, Subgraph}
use Rattle.definition.specs.Directions.{MessageNode, MessageGraph, message_graph_of, node_at}
use Rattle.definition.specs.Refusals.{markers_of}
use Rattle.graph_laws.specs.Bools.{eqb_sound}
use Rattle.graph_laws.specs.Lists.{All-at}
use Rattle.graph_laws.specs.Ranks.{upto-below, get_d_map_index}
use Rattle.graph_laws.specs.Components.{Holds}
use Rattle.graph_laws.specs.Names.{eq_node_sound, eq_node-same, Valid, node_input}
use Rattle.graph_laws.specs.Locality.{Part}
use Rattle.factor_graph.specs.Words.{label, first_slots, edge_words, graph_words}
use Rattle.list_laws.specs.Part.{region}
use Rattle.messages.specs.Layout.{kind_code}
use Rattle.messages.specs.State.{HasEvidence}
use Rattle.messages.specs.DirectionsRecord.{Recorded, Stands, stands_front, stands_back, node_count}
use Rattle.messages.specs.DirectionsRead.{labels_row}
use Rattle.part.specs.AcceptedFactor.{graph_by_names, by_name, node-is, node_at_lem, part-known}

-- ---- the labels stand behind the kinds

pub labels-recorded : (w labels : List ℕ) (g : Subgraph) → Recorded w 0 labels g → labels_row w 0 ≡ labels
unfolding graph_words
labels-recorded w labels g R =
    let codes = map (λ (x : SubgraphNode). kind_code x.kind) g.nodes in
    let front = length g.nodes ∷ length g.edges ∷ codes in
    let rest = first_slots 0 g.nodes ++ (concat (map (λ (x : SubgraphNode). x.edges) g.nodes) ++ concat (map edge_words g.edges)) in
    let n : get_or w 0 0 ≡ length g.nodes = node_count w 0 labels g R in
    let there : Stands w (0 + length front) labels = stands_front w (0 + length front) labels rest (stands_back w 0 front (labels ++ rest) R.stands) in
    ap (λ (k : ℕ). region w (0 + 2 + get_or w 0 0) k) (n ∙ sym R.labelled)
    ∙ ap (λ (k : ℕ). region w k (length labels)) (let z : 0 + 2 + get_or w 0 0 ≡ 0 + length front = omega (arith, length-map g.nodes (λ (x : SubgraphNode). kind_code x.kind)) in z)
    ∙ there

-- ---- an input's evidence

evidence-at : (es : List Float) (m : ℕ) → m < length (markers_of es) → HasEvidence (input (get_or (markers_of es) m no_evidence)) m es
unfolding markers_of
evidence-at [] m h = absurd (let z : ⊥ = omega arith in z)
evidence-at (a ∷ []) m h = absurd (let z : ⊥ = omega arith in z)
evidence-at (a ∷ p ∷ es) zero h = (omega arith, refl, refl)
evidence-at (a ∷ p ∷ es) (suc m) h =
    let r = evidence-at es m (omega arith) in (
      omega (arith, r.0),
      r.1 ∙ ap (λ (i : ℕ). get_or (a ∷ p ∷ es) i zeroᶠ) (let z : suc (suc (2 * m)) ≡ 2 * suc m = omega arith in z),
      r.2 ∙ ap (λ (i : ℕ). get_or (a ∷ p ∷ es) i zeroᶠ) (let z : suc (suc (2 * m + 1)) ≡ 2 * suc m + 1 = omega arith in z),
    )

module _ (b : Bale) (ok : Valid b) (p : List Node) (is : Part b ok p) (evidence : List Float) (markers : b.markers ≡ markers_of evidence) where
  has_evidence : (v : Node) → Holds eq_node p v → HasEvidence (kind_of b v) (label v) evidence
  has_evidence (grade_node g) h = tt
  has_evidence (factor_node m) h = tt
  has_evidence (tree_node m) h = tt
  has_evidence (input_node m) h =
      subst (λ (l : List Evidence). HasEvidence (input (get_or l m no_evidence)) m evidence) (sym markers)
      (evidence-at evidence m
      (subst (λ (l : List Evidence). m < length l) markers
      (All-at eqb eqb_sound (λ k. k < length b.markers) (marker_numbers b) (upto-below (length b.markers)) m (sym (node_input b m) ∙ part-known b ok p is (input_node m) h))))

  named_inputs : (n : ℕ) → n < length (graph_by_names b ok p is).nodes → HasEvidence (node_at (graph_by_names b ok p is) n).kind (get_or (map label p) n 0) evidence
  named_inputs n h =
      let a = node_at_lem b ok p is n h in
      subst (λ (i : ℕ). HasEvidence (node_at (graph_by_names b ok p is) i).kind (get_or (map label p) i 0) evidence) a.position
      (subst (λ (x : MessageNode). HasEvidence x.kind (get_or (map label p) (index_of eq_node a.thing p) 0) evidence) (sym (node-is b ok p is a.thing a.held))
      (subst (λ (i : ℕ). HasEvidence (kind_of b a.thing) i evidence) (sym (get_d_map_index eq_node eq_node_sound eq_node-same label 0 a.thing p a.held)) (has_evidence a.thing a.held)))

  pub part_inputs : (n : ℕ) → n < length (message_graph_of b p).nodes → HasEvidence (node_at (message_graph_of b p) n).kind (get_or (map label p) n 0) evidence
  part_inputs = subst (λ (t : MessageGraph). (n : ℕ) → n < length t.nodes → HasEvidence (node_at t n).kind (get_or (map label p) n 0) evidence) (sym (by_name b ok p is)) named_inputs
