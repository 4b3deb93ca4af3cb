-- The change of a tree's incoming messages, message by message.
use Rattle.std.proofs.Math.Path.{◌≡◌, refl, sym, ap}
use Rattle.std.proofs.Common.{◌∙◌, le_of_eq, add-one, drop_of_length-le, length-drop, drop-cons, take_all}
use Rattle.std.specs.Prelude.{Bool, ◌&&◌, ◌||◌, ℕ, suc, ◌+◌, ◌-◌, ◌/◌, ◌≤◌, ◌<◌, take, Float}
use Rattle.std.proofs.Math.Bool.{true, false, not}
use Rattle.std.proofs.Math.Option.{some}
use mathlib.Core.List.{List, [], ◌∷◌}
use native.Mathlib.Omega.{arith}
use Rattle.std.proofs.Math.ListN.{length, drop}
use Rattle.std.specs.Float.Ieee.{lt, eq}
use Rattle.std.specs.Cmp.Lexicographic.{pointwise}
use Rattle.definition.specs.Floats.{◌⊕◌, ◌⊗◌, zeroᶠ, twoᶠ}
use Rattle.definition.specs.Vectors.{Message}
use Rattle.definition.specs.Directions.{message_at}
use Rattle.definition.specs.Messages.{equal_messages, message_change, change_exceeds, needs_rebuild}
use Rattle.messages.specs.Pairs.{pairs, length_pairs}

-- the messages of a tree over n grades: its factor's, then the grades'
abbrev pub tree_row : ℕ → List Float → List Message
tree_row n l = take (n + 1) l ∷ pairs (drop (n + 1) l)

-- ---- equality

-- std's `==` of slices
slice_eq : (m o : List Float) → pointwise eq m o ≡ equal_messages m o
unfolding equal_messages
slice_eq [] [] = refl
slice_eq [] (y ∷ o) = refl
slice_eq (x ∷ m) [] = refl
slice_eq (x ∷ m) (y ∷ o) = ap (λ (b : Bool). eq x y && b) (slice_eq m o)

-- ---- the summed change

module _ (t : Float) (m o : List Float) (i : ℕ) (h : i < length m / 2) (l : length m ≡ length o) where
  abbrev next : Float → Float
  next a = a ⊕ message_change (message_at i (pairs m)) (message_at i (pairs o))

  one_more_lem : (a : Float) → change_exceeds t a (drop i (pairs m)) (drop i (pairs o)) ≡ elim (lt t (twoᶠ ⊗ next a)) as (λ (b : Bool). Bool) [ true ↦ true | false ↦ change_exceeds t (next a) (drop (suc i) (pairs m)) (drop (suc i) (pairs o)) ]
  unfolding change_exceeds
  one_more_lem a =
      let g : i < length (pairs m) = omega (arith, length_pairs m) in
      let k : i < length (pairs o) = omega (arith, length_pairs o) in
      ap (λ (u : List Message). change_exceeds t a u (drop i (pairs o))) (drop-cons (pairs m) i [] g)
      ∙ ap (λ (u : List Message). change_exceeds t a (message_at i (pairs m) ∷ drop (suc i) (pairs m)) u) (drop-cons (pairs o) i [] k)

  abbrev chosen : Float → Bool → Bool
  chosen a b = elim b as (λ (u : Bool). Bool) [ true ↦ true | false ↦ change_exceeds t a (drop (suc i) (pairs m)) (drop (suc i) (pairs o)) ]

  pub change_turn : (a b : Float) → b ≡ next a → lt t (twoᶠ ⊗ b) ≡ false → change_exceeds t b (drop (i + 1) (pairs m)) (drop (i + 1) (pairs o)) ≡ change_exceeds t a (drop i (pairs m)) (drop i (pairs o))
  change_turn a b e f =
      ap (λ (n : ℕ). change_exceeds t b (drop n (pairs m)) (drop n (pairs o))) (add-one i)
      ∙ sym (ap (chosen b) f)
      ∙ ap (λ (z : Float). chosen z (lt t (twoᶠ ⊗ z))) e
      ∙ sym (one_more_lem a)

  pub change_over : (a b : Float) → b ≡ next a → lt t (twoᶠ ⊗ b) ≡ true → true ≡ change_exceeds t a (drop i (pairs m)) (drop i (pairs o))
  change_over a b e f = sym (ap (chosen b) f) ∙ ap (λ (z : Float). chosen z (lt t (twoᶠ ⊗ z))) e ∙ sym (one_more_lem a)

pub change_none : (t a : Float) (m o : List Float) (i : ℕ) → length m / 2 ≤ i → false ≡ change_exceeds t a (drop i (pairs m)) (drop i (pairs o))
unfolding change_exceeds
change_none t a m o i h =
    let g : length (pairs m) ≤ i = omega (arith, length_pairs m) in
    sym (ap (λ (u : List Message). change_exceeds t a u (drop i (pairs o))) (drop_of_length-le (pairs m) g))

-- of the parts of two rows from entry k on
pub rest_change :
    (t : Float) (k : ℕ) (m o : List Float) →
    change_exceeds t zeroᶠ (pairs (take (length m - k) (drop k m))) (pairs (take (length o - k) (drop k o))) ≡ change_exceeds t zeroᶠ (pairs (drop k m)) (pairs (drop k o))
rest_change t k m o =
    ap (λ (l : List Float). change_exceeds t zeroᶠ (pairs l) (pairs (take (length o - k) (drop k o)))) (take_all (length m - k) (drop k m) (le_of_eq (length-drop k m)))
    ∙ ap (λ (l : List Float). change_exceeds t zeroᶠ (pairs (drop k m)) (pairs l)) (take_all (length o - k) (drop k o) (le_of_eq (length-drop k o)))

-- ---- the two together

module _ (t : Float) (m o : Message) (ms os : List Message) (r : Bool) (e : r ≡ not (pointwise eq m o)) where
  by-test : (b : Bool) → r ≡ b → (b || change_exceeds t zeroᶠ ms os) ≡ needs_rebuild t (m ∷ ms) (some (o ∷ os))
  unfolding needs_rebuild
  by-test b f = ap (λ (u : Bool). u || change_exceeds t zeroᶠ ms os) (sym f ∙ e ∙ ap not (slice_eq m o))

  pub rebuild_other : r ≡ true → true ≡ needs_rebuild t (m ∷ ms) (some (o ∷ os))
  rebuild_other f = by-test true f

  pub rebuild_change : r ≡ false → change_exceeds t zeroᶠ ms os ≡ needs_rebuild t (m ∷ ms) (some (o ∷ os))
  rebuild_change f = by-test false f
