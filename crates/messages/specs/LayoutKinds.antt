-- A node's kind by its code, and how long the messages are that each kind of node holds.
use Rattle.std.specs.Prelude.{ℕ, zero, suc, ◌+◌, ◌-◌, ◌*◌, ◌≤◌, ◌<◌, ◌≡◌, refl, List, [], ◌∷◌, eqb, Float, length, get_or, take, drop}
use Rattle.std.proofs.Common.{arith, sym, ap, ◌∙◌, subst, length-drop, drop-cons}
use Rattle.definition.specs.Lists.{range}
use Rattle.definition.specs.Vectors.{Message}
use Rattle.definition.specs.FactorGraph.{Kind, grade, factor, input, tree, is_grade, is_factor, is_input, is_tree}
use Rattle.definition.specs.Components.{Subgraph}
use Rattle.definition.specs.Directions.{Direction, MessageNode, MessageGraph, no_direction, no_message_node, node_at, direction_at, messages_in}
use Rattle.graph_laws.specs.Lists.{length_count}
use Rattle.graph_laws.specs.AloneChecks.{All-getD}
use Rattle.graph_laws.specs.Consistency.{PositionFits, Consistent}
use Rattle.graph_laws.specs.MessageLengths.{AllBinary, FactorFirst, TreeSound, MessageNodeSound, Sound}
use Rattle.list_laws.specs.Part.{region, get_d_region, length-region}
use Rattle.messages.specs.Layout.{cut, width, kind_code}
use Rattle.messages.specs.LayoutLists.{get_d_range}
use Rattle.messages.specs.LayoutOffsets.{long_at, offset_at, offset-next, offset-two, TwoLong}
use Rattle.messages.specs.LayoutCut.{row_in, length-row_in, messages_in-cut}
use Rattle.messages.specs.LayoutPairs.{pairs, cut-pairs}

-- ---- codes

pub code-grade : (k : Kind) → is_grade k ≡ eqb (kind_code k) 0
code-grade grade = refl
code-grade (factor d) = refl
code-grade (input e) = refl
code-grade (tree d) = refl

pub code-factor : (k : Kind) → is_factor k ≡ eqb (kind_code k) 1
code-factor grade = refl
code-factor (factor d) = refl
code-factor (input e) = refl
code-factor (tree d) = refl

pub code_input : (k : Kind) → is_input k ≡ eqb (kind_code k) 2
code_input grade = refl
code_input (factor d) = refl
code_input (input e) = refl
code_input (tree d) = refl

pub code-tree : (k : Kind) → is_tree k ≡ eqb (kind_code k) 3
code-tree grade = refl
code-tree (factor d) = refl
code-tree (input e) = refl
code-tree (tree d) = refl

pub code_lt : (k : Kind) → kind_code k < 4
code_lt grade = omega arith
code_lt (factor d) = omega arith
code_lt (input e) = omega arith
code_lt (tree d) = omega arith

-- ---- lengths

binary-at : (t : MessageGraph) (os : List ℕ) (i : ℕ) → AllBinary t os → i < length os → (direction_at t (get_or os i 0)).message_length ≡ 2
binary-at t [] i a h = absurd (let z : ⊥ = omega arith in z)
binary-at t (o ∷ os) zero a h = a.0
binary-at t (o ∷ os) (suc i) a h = binary-at t os i a.1 (omega arith)

first_of : (t : MessageGraph) (l f m : ℕ) → FactorFirst t l (range f (suc m)) → (direction_at t f).message_length ≡ l
first_of t l f m a = a.0

rest_of : (t : MessageGraph) (l f m : ℕ) → FactorFirst t l (range f (suc m)) → AllBinary t (range (suc f) m)
rest_of t l f m a = a.1

-- by the code, what is known of the node
grade_sound : (t : MessageGraph) (k : Kind) (x : MessageNode) → kind_code k ≡ 0 → MessageNodeSound t k x → AllBinary t x.outgoing
grade_sound t grade x e s = s
grade_sound t (factor d) x e s = absurd (let z : ⊥ = omega arith in z)
grade_sound t (input y) x e s = absurd (let z : ⊥ = omega arith in z)
grade_sound t (tree d) x e s = absurd (let z : ⊥ = omega arith in z)

input_sound : (t : MessageGraph) (k : Kind) (x : MessageNode) → kind_code k ≡ 2 → MessageNodeSound t k x → AllBinary t x.outgoing
input_sound t grade x e s = absurd (let z : ⊥ = omega arith in z)
input_sound t (factor d) x e s = absurd (let z : ⊥ = omega arith in z)
input_sound t (input y) x e s = s
input_sound t (tree d) x e s = absurd (let z : ⊥ = omega arith in z)

tree_sound : (t : MessageGraph) (k : Kind) (x : MessageNode) → kind_code k ≡ 3 → MessageNodeSound t k x → TreeSound t x
tree_sound t grade x e s = absurd (let z : ⊥ = omega arith in z)
tree_sound t (factor d) x e s = absurd (let z : ⊥ = omega arith in z)
tree_sound t (input y) x e s = absurd (let z : ⊥ = omega arith in z)
tree_sound t (tree d) x e s = s

module _ (g : Subgraph) (t : MessageGraph) (C : Consistent g t) (S : Sound t) (n : ℕ) (h : n < length t.nodes) where
  node_sound : MessageNodeSound t (node_at t n).kind (node_at t n)
  node_sound = All-getD (λ x. MessageNodeSound t x.kind x) t.nodes S.nodes no_message_node n h

  -- what comes in is as long as what goes out
  back-two : AllBinary t (node_at t n).outgoing → TwoLong t.directions (node_at t n).first_incoming (length (node_at t n).outgoing)
  back-two a i q =
      let l : n < length g.nodes = omega (arith, C.nodes) in
      let P : PositionFits g t n i = C.position n i l (omega (arith, (C.node n l).outgoing)) in
      sym P.reversed.message_length ∙ binary-at t (node_at t n).outgoing i a q

  -- a grade and an input hold messages of two floats
  pub grade-two : kind_code (node_at t n).kind ≡ 0 → TwoLong t.directions (node_at t n).first_incoming (length (node_at t n).outgoing)
  grade-two e = back-two (grade_sound t (node_at t n).kind (node_at t n) e node_sound)

  pub input_two : kind_code (node_at t n).kind ≡ 2 → TwoLong t.directions (node_at t n).first_incoming (length (node_at t n).outgoing)
  input_two e = back-two (input_sound t (node_at t n).kind (node_at t n) e node_sound)

  -- a tree's first message has an entry for each neighbour, and the others two
  module _ (e : kind_code (node_at t n).kind ≡ 3) where
    T : TreeSound t (node_at t n)
    T = tree_sound t (node_at t n).kind (node_at t n) e node_sound

    pub tree-degree : 3 ≤ length (node_at t n).outgoing
    tree-degree = T.some-grades

    split : FactorFirst t (length (node_at t n).outgoing) (range (node_at t n).first_incoming (suc (length (node_at t n).outgoing - 1)))
    split =
        subst (λ (k : ℕ). FactorFirst t (length (node_at t n).outgoing) (range (node_at t n).first_incoming k))
        (let z : length (node_at t n).outgoing ≡ suc (length (node_at t n).outgoing - 1) = omega (arith, tree-degree) in z) T.incoming_factor_first

    pub tree-first : long_at t.directions (node_at t n).first_incoming ≡ length (node_at t n).outgoing
    tree-first = first_of t (length (node_at t n).outgoing) (node_at t n).first_incoming (length (node_at t n).outgoing - 1) split

    pub tree-two : TwoLong t.directions ((node_at t n).first_incoming + 1) (length (node_at t n).outgoing - 1)
    tree-two i q =
        let f = (node_at t n).first_incoming in
        let m = length (node_at t n).outgoing - 1 in
        ap (λ (k : ℕ). (direction_at t k).message_length) (let z : f + 1 + i ≡ suc f + i = omega arith in z ∙ sym (get_d_range (suc f) m i q))
        ∙ binary-at t (range (suc f) m) i (rest_of t (length (node_at t n).outgoing) f m split) (rw (length_count (suc f) m) q)

-- ---- all that a tree holds: a message with an entry for each neighbour, and pairs
module _ (ds : List Direction) (x : MessageNode) (r : List Float) (e : length r ≡ width ds) (inside : x.first_incoming + length x.outgoing ≤ length ds) (some : 0 < length x.outgoing)
    (first : long_at ds x.first_incoming ≡ length x.outgoing) (two : TwoLong ds (x.first_incoming + 1) (length x.outgoing - 1)) where
  pub tree-offset : (i : ℕ) → i < length x.outgoing → offset_at ds (x.first_incoming + 1 + i) ≡ offset_at ds x.first_incoming + length x.outgoing + 2 * i
  tree-offset i h = omega (arith, offset-two ds (x.first_incoming + 1) (length x.outgoing - 1) i (omega arith) two (omega arith), offset-next ds x.first_incoming (omega arith))

  pub tree-row : length (row_in x ds r) ≡ length x.outgoing + 2 * (length x.outgoing - 1)
  tree-row =
      let n = length x.outgoing in
      let z = ap (offset_at ds) (let z : x.first_incoming + 1 + (n - 1) ≡ x.first_incoming + n = omega arith in z) in
      omega (arith, length-row_in x ds r inside e, z, tree-offset (n - 1) (omega arith))

  pub messages_in-tree : messages_in x (cut ds r) ≡ take (length x.outgoing) (row_in x ds r) ∷ pairs (drop (length x.outgoing) (row_in x ds r))
  messages_in-tree =
      let f = x.first_incoming in
      let n = length x.outgoing in
      let es = region ds (f + 1) (n - 1) in
      let c : length es ≡ n - 1 = length-region ds (f + 1) (n - 1) (omega arith) in
      messages_in-cut x ds r inside
      ∙ ap (λ (k : ℕ). cut (take k (drop f ds)) (row_in x ds r)) (let z : n ≡ suc (n - 1) = omega arith in z)
      ∙ ap (λ (l : List Direction). cut (take (suc (n - 1)) l) (row_in x ds r)) (drop-cons ds f no_direction (omega arith))
      ∙ ap (λ (k : ℕ). cut (get_or ds f no_direction ∷ take (n - 1) (drop k ds)) (row_in x ds r)) (let z : suc f ≡ f + 1 = omega arith in z)
      ∙ ap (λ (k : ℕ). take k (row_in x ds r) ∷ cut es (drop k (row_in x ds r))) first
      ∙ ap (λ (l : List Message). take n (row_in x ds r) ∷ l)
      (cut-pairs es (drop n (row_in x ds r)) (length-drop n (row_in x ds r) ∙ omega (arith, tree-row))
      (λ d q. ap (λ (w : Direction). w.message_length) (get_d_region ds (f + 1) (n - 1) d no_direction (omega arith)) ∙ two d (omega arith)))
