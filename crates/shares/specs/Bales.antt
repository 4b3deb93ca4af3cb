-- What `add_bale` asks and answers, of the answer of a bale file: all that it asks is so, and each total gets the grade's grams.
use Rattle.std.specs.Prelude.{ℕ, zero, suc, ◌+◌, ◌*◌, ◌≤◌, ◌<◌, ◌≡◌, List, [], ◌∷◌, ◌++◌, eqb, length, get_or}
use Rattle.std.proofs.Common.{arith, subst}
use Rattle.std.proofs.Math.Path.{refl}
use Rattle.std.proofs.Math.Option.{some}
use Rattle.std.specs.Float.{nan}
use Rattle.float_laws.specs.Interval.{In}
use Rattle.definition.specs.Floats.{zeroᶠ, oneᶠ}
use Rattle.definition.specs.Vectors.{Message}
use Rattle.definition.specs.Answer.{Belief, PartAnswer, answer, answered_beliefs, belief_numbers, belief_floats}
use Rattle.definition.specs.BaleFile.{words, settings_of_words, bale_of_words}
use Rattle.definition.specs.FileAnswer.{buffers, file_answer}
use Rattle.definition.specs.Tonnage.{Row, grams_of, grams_in, add_each}
use Rattle.theorems.specs.Facts.{All, NoDup, TwoFloats, answer-sizes, UnitValue, UnitValues}
use Rattle.tonnage_laws.specs.Answers.{bale_answered, answer_in_unit}
use Rattle.shares.specs.Adding.{Low, Addable, Added}

all-at : (P : ℕ → Type 0) (xs : List ℕ) (i : ℕ) → All P xs → i < length xs → P (get_or xs i 0)
all-at P [] i a h = absurd (let z : ⊥ = omega arith in z)
all-at P (x ∷ xs) zero a h = a.0
all-at P (x ∷ xs) (suc i) a h = all-at P xs i a.1 (omega arith)

-- the present belief of the i-th grade
present_unit : (bs : List Belief) (i : ℕ) → All UnitValues bs → All TwoFloats bs → i < length bs → In zeroᶠ oneᶠ (get_or (belief_floats bs) (2 * i + 1) nan)
unfolding belief_floats
present_unit [] i u t h = absurd (let z : ⊥ = omega arith in z)
present_unit (b ∷ bs) i u t h = go b.value i u.0 t.0 (λ j k. present_unit bs j u.1 t.1 k) h
  where
    go : (m : Message) (i : ℕ) → All UnitValue m → length m ≡ 2 → ((j : ℕ) → j < length bs → In zeroᶠ oneᶠ (get_or (belief_floats bs) (2 * j + 1) nan)) → i < suc (length bs) → In zeroᶠ oneᶠ (get_or (m ++ belief_floats bs) (2 * i + 1) nan)
    go [] i v l r h = absurd (let z : ⊥ = omega arith in z)
    go (x ∷ []) i v l r h = absurd (let z : ⊥ = omega arith in z)
    go (x ∷ y ∷ z ∷ m) i v l r h = absurd (let q : ⊥ = omega arith in q)
    go (x ∷ y ∷ []) zero v l r h = v.1.0.inside
    go (x ∷ y ∷ []) (suc j) v l r h = let e : suc (suc (2 * j + 1)) ≡ 2 * suc j + 1 = omega arith in subst (λ (k : ℕ). In zeroᶠ oneᶠ (get_or (x ∷ y ∷ belief_floats bs) k nan)) e (r j (omega arith))

module _ (bs : List ℕ) (ps : List PartAnswer) (h : file_answer bs ≡ some ps) where
  -- what the answer's sizes are
  pub record Sizes (qs : List Belief) : Type 0 where
    pub once : NoDup eqb (belief_numbers qs)
    pub below : All (λ g. g < 24) (belief_numbers qs)
    pub few : length qs ≤ 24
    pub floats : All TwoFloats qs
    pub numbers-long : length (belief_numbers qs) ≡ length qs
    pub floats_long : length (belief_floats qs) ≡ 2 * length qs

  pub sizes : Sizes (answered_beliefs ps)
  sizes =
      let d = bale_answered bs ps h in
      let z = answer-sizes (settings_of_words (words bs)) buffers (bale_of_words (words bs)) d.accepts in
      let k = d.small in
      subst (λ (q : List PartAnswer). Sizes (answered_beliefs q)) d.answers
      (record {
        once = z.once;
        below = under (belief_numbers (answered_beliefs (answer (settings_of_words (words bs)) (bale_of_words (words bs))))) (bale_of_words (words bs)).grades k z.below;
        few = omega (arith, z.beliefs);
        floats = z.floats;
        numbers-long = z.belief_numbers_long;
        floats_long = z.belief_floats_long;
      })
    where
      under : (xs : List ℕ) (n : ℕ) → n ≤ 24 → All (λ g. g < n) xs → All (λ g. g < 24) xs
      under [] n k a = tt
      under (x ∷ xs) n k a = (omega (arith, a.0), under xs n k a.1)

  module _ (r : Row) (ts : List ℕ) where
    pub answer_addable : r.kilograms ≤ 2000 → Low ts → Addable ts (grams_of r) (belief_numbers (answered_beliefs ps)) (belief_floats (answered_beliefs ps))
    answer_addable k t =
        let z = sizes in
        let n = z.numbers-long in
        record {
          light = omega arith;
          few = omega (arith, z.few);
          two = omega (arith, z.floats_long);
          inside = λ i q. omega (arith, all-at (λ g. g < 24) (belief_numbers (answered_beliefs ps)) i z.below q, t.long);
          unit = λ i q. present_unit (answered_beliefs ps) i (answer_in_unit bs ps h) z.floats (omega arith);
          low = t.low;
        }

    pub answer-added : (us : List ℕ) → Added ts (grams_of r) (belief_numbers (answered_beliefs ps)) (belief_floats (answered_beliefs ps)) us → us ≡ add_each (grams_in r ps) 0 ts
    unfolding grams_in
    answer-added us a = let z = sizes in a.grades (answered_beliefs ps) refl refl z.floats z.once
