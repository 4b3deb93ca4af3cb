-- Beliefs written one behind the other over the fronts of two slices.
use Rattle.std.specs.Prelude.{ℕ, ◌+◌, ◌*◌, ◌<◌, ◌≡◌, refl, List, [], ◌∷◌, ◌++◌, Float, length, set}
use Rattle.std.proofs.Common.{arith, sym, ap, ◌∙◌, length-append}
use Rattle.std.proofs.lemmas.List.{map-append}
use Rattle.std.specs.Float.{nan}
use Rattle.definition.specs.Vectors.{binary}
use Rattle.definition.specs.Answer.{Belief, belief_numbers, belief_floats}
use Rattle.definition.specs.Call.{overwrite}
use Rattle.graph_laws.specs.Lists.{append_none}
use Rattle.graph_laws.specs.AnswerSizes.{numbers-length, floats_append}
use Rattle.graph_laws.specs.Overwriting.{over-one, over-two}
use Rattle.part.specs.Named.{Believed}

floats_snoc : (bs : List Belief) (b : Belief) → belief_floats (bs ++ (b ∷ [])) ≡ belief_floats bs ++ b.value
unfolding belief_floats
floats_snoc bs b = floats_append bs (b ∷ []) ∙ ap (λ (l : List Float). belief_floats bs ++ l) (append_none b.value)

numbers_append : (bs : List Belief) (b : Belief) → belief_numbers (bs ++ (b ∷ [])) ≡ belief_numbers bs ++ (b.grade ∷ [])
unfolding belief_numbers
numbers_append bs b = map-append (λ (c : Belief). c.grade) bs (b ∷ [])

pub believed-none : (numbers : List ℕ) (floats : List Float) → Believed [] numbers floats 0 numbers floats
unfolding belief_numbers belief_floats
believed-none numbers floats = record { count_is = refl; numbers_are = refl; floats_are = refl }

module _ (bs : List Belief) (b : Belief) (numbers : List ℕ) (floats : List Float) (k : ℕ) (numbers' : List ℕ) (floats' : List Float) (H : Believed bs numbers floats k numbers' floats')
    (two : length (belief_floats bs) ≡ 2 * length bs) where
  pub believed-next : (x y : Float) → k < length numbers → 2 * k + 1 < length floats → binary x y ≡ b.value
      → Believed (bs ++ (b ∷ [])) numbers floats (k + 1) (set numbers' k b.grade) (set (set floats' (2 * k) x) (2 * k + 1) y)
  believed-next x y h g e =
      let n : length (belief_numbers bs) ≡ k = numbers-length bs ∙ sym H.count_is in
      let f : length (belief_floats bs) ≡ 2 * k = omega (arith, two, H.count_is) in
      record {
        count_is = omega (arith, H.count_is, length-append bs (b ∷ []));
        numbers_are =
            ap (λ (l : List ℕ). set l k b.grade) H.numbers_are
            ∙ over-one 0 (belief_numbers bs) numbers k b.grade n h
            ∙ ap (λ (l : List ℕ). overwrite l numbers) (sym (numbers_append bs b));
        floats_are =
            ap (λ (l : List Float). set (set l (2 * k) x) (2 * k + 1) y) H.floats_are
            ∙ over-two nan (belief_floats bs) floats (2 * k) x y f g
            ∙ ap (λ (l : List Float). overwrite l floats) (ap (λ (l : List Float). belief_floats bs ++ l) e ∙ sym (floats_snoc bs b));
      }
