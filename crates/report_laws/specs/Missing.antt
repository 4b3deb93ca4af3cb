-- Which grades have no belief under reads: those in no pair.
use Rattle.std.specs.Prelude.{ℕ, ◌<◌, ◌≡◌, refl, Bool, true, false, not, ◌||◌, List, [], ◌∷◌, eqb, Float}
use Rattle.std.proofs.Common.{ap, ◌∙◌}
use Rattle.std.proofs.lemmas.Bool.{false≢true}
use Rattle.std.proofs.Math.Option.{Option, none, some}
use Rattle.definition.specs.Lists.{mem}
use Rattle.definition.specs.Vectors.{entry}
use Rattle.definition.specs.Settings.{Settings}
use Rattle.definition.specs.FactorGraph.{Bale}
use Rattle.definition.specs.Answer.{Belief, answer, answered_beliefs, belief_numbers}
use Rattle.definition.specs.Refusals.{Buffers, accepted, verdict}
use Rattle.definition.specs.Reads.{with_reads, present_of, present_under, is_missing}
use Rattle.claims.specs.Parts.{in_pair}
use Rattle.graph_laws.specs.Bools.{bool_iff, eqb_sound, eqb_same}
use Rattle.graph_laws.specs.Paired.{believed_paired}

-- the answer has no belief of a grade exactly if the grade is not among those answered
missing_not : (xs : List Belief) (g : ℕ) → is_missing (present_of xs g) ≡ not (mem eqb g (belief_numbers xs))
unfolding present_of belief_numbers
missing_not [] g = refl
missing_not (x ∷ xs) g = go (eqb x.grade g) (missing_not xs g) ∙ ap (λ (c : Bool). not (c || mem eqb g (belief_numbers xs))) swap
  where
    swap : eqb x.grade g ≡ eqb g x.grade
    swap =
        bool_iff (eqb x.grade g) (eqb g x.grade) (λ e. ap (λ (n : ℕ). eqb g n) (eqb_sound x.grade g e) ∙ eqb_same g)
        (λ e. ap (λ (n : ℕ). eqb x.grade n) (eqb_sound g x.grade e) ∙ eqb_same x.grade)

    go : (c : Bool) → is_missing (present_of xs g) ≡ not (mem eqb g (belief_numbers xs))
        → is_missing (elim c [ true ↦ some (entry 1 x.value) | false ↦ present_of xs g ]) ≡ not (c || mem eqb g (belief_numbers xs))
    go true r = refl
    go false r = r

-- so a grade that is not among them has none
pub not_among : (g : ℕ) (xs : List Belief) → mem eqb g (belief_numbers xs) ≡ false → present_of xs g ≡ none
not_among g xs e = go (present_of xs g) (missing_not xs g ∙ ap not e)
  where
    go : (o : Option Float) → is_missing o ≡ true → o ≡ none
    go none h = refl
    go (some x) h = absurd (false≢true h)

-- under reads that are accepted a grade has no belief exactly if it is in no pair
pub missing_under :
    (s : Settings) (f : Buffers) (b : Bale) (rs : List Bool) → verdict s f (with_reads rs b) ≡ accepted → (g : ℕ) → g < b.grades →
    is_missing (present_under s b rs g) ≡ not (in_pair b g)
unfolding with_reads
missing_under s f b rs h g l = missing_not (answered_beliefs (answer s (with_reads rs b))) g ∙ ap not (believed_paired s f (with_reads rs b) h g l)
