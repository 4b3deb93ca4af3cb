-- A grade's grams in a bale, by the beliefs that the bale answers.
use Rattle.std.specs.Prelude.{ℕ, ◌*◌, ◌≡◌, refl, false, List, [], ◌∷◌, ◌++◌, eqb}
use Rattle.std.proofs.Common.{ap, ◌∙◌, eq-eqb}
use Rattle.definition.specs.Lists.{mem}
use Rattle.definition.specs.Vectors.{entry}
use Rattle.definition.specs.Answer.{Belief, PartAnswer, answered_beliefs, belief_numbers}
use Rattle.definition.specs.Tonnage.{Row, share, share_among, grams_of, grams_in}
use Rattle.weighing_laws.specs.Lines.{neither}

-- 0 without a belief
pub none_among : (w g : ℕ) (xs : List Belief) → mem eqb g (belief_numbers xs) ≡ false → share_among w g xs ≡ 0
unfolding share_among belief_numbers
none_among w g [] h = refl
none_among w g (x ∷ xs) h = let n = neither (eqb g x.grade) (mem eqb g (belief_numbers xs)) h in rw n.0 (none_among w g xs n.1)

first_among :
    (w : ℕ) (xs : List Belief) (b : Belief) (ys : List Belief) → mem eqb b.grade (belief_numbers xs) ≡ false →
    share_among w b.grade (xs ++ b ∷ ys) ≡ share w (entry 1 b.value)
unfolding share_among belief_numbers
first_among w [] b ys h = rw (eq-eqb b.grade b.grade refl)
first_among w (x ∷ xs) b ys h =
    let n = neither (eqb b.grade x.grade) (mem eqb b.grade (belief_numbers xs)) h in
    rw n.0 (first_among w xs b ys n.1)

-- the share of the whole weight, by the grade's first belief
pub grams_first :
    (r : Row) (ps : List PartAnswer) (xs : List Belief) (b : Belief) (ys : List Belief) → answered_beliefs ps ≡ xs ++ b ∷ ys →
    mem eqb b.grade (belief_numbers xs) ≡ false → grams_in r ps b.grade ≡ share (1000 * r.kilograms) (entry 1 b.value)
unfolding grams_in
grams_first r ps xs b ys e h = ap (share_among (grams_of r) b.grade) e ∙ first_among (grams_of r) xs b ys h
