-- Grades judged one by one are the beliefs judged one by one, since no grade has two beliefs.
use Rattle.std.specs.Prelude.{ℕ, zero, suc, ◌+◌, ◌≤◌, ◌<◌, ◌≡◌, refl, Bool, eqb, Float}
use Rattle.std.proofs.Math.Decide.{dec_lt}
use Rattle.std.proofs.Common.{arith, ◌∙◌}
use Rattle.std.proofs.Math.Path.{sym, ap}
use Rattle.std.proofs.Math.Logic.{by_cases}
use Rattle.std.proofs.Math.Bool.{false}
use Rattle.std.proofs.Math.Option.{Option, none, some}
use mathlib.Core.List.{List, [], ◌∷◌}
use Rattle.std.proofs.Math.ListN.{length, get_or}
use Rattle.definition.specs.Lists.{range, how_many}
use Rattle.definition.specs.Vectors.{entry}
use Rattle.definition.specs.Answer.{Belief, belief_numbers}
use Rattle.definition.specs.Reads.{present_of}
use Rattle.graph_laws.specs.Bools.{eqb_sound, eqb_same, not-true}
use Rattle.graph_laws.specs.Lists.{All, All-every, filter_none}
use Rattle.graph_laws.specs.Ranks.{NoDup}
use Rattle.report_laws.specs.Counts.{one_if, count_cons}
use Rattle.report_laws.specs.Missing.{not_among}

-- ---- two tests that differ at one number only

module _ (f g : ℕ → Bool) (k : ℕ) (same : (j : ℕ) → eqb k j ≡ false → f j ≡ g j) where
  apart : (j : ℕ) → (k ≡ j → ⊥) → one_if (f j) ≡ one_if (g j)
  apart j h = ap one_if (same j (not-true (eqb k j) (λ e. h (eqb_sound k j e))))

  counts-after : (i n : ℕ) → k < i → how_many f (range i n) ≡ how_many g (range i n)
  counts-after i zero l = refl
  counts-after i (suc n) l =
      omega (arith, count_cons f i (range (suc i) n), count_cons g i (range (suc i) n), apart i (λ e. omega arith), counts-after (suc i) n (omega arith))

  counts-one : g k ≡ false → (i n : ℕ) → i ≤ k → k < i + n → how_many f (range i n) ≡ one_if (f k) + how_many g (range i n)
  counts-one z i zero l h = absurd (let w : ⊥ = omega arith in w)
  counts-one z i (suc n) l h =
      by_cases (dec_lt i k)
      (λ (a : i < k).
      omega
      (arith, count_cons f i (range (suc i) n), count_cons g i (range (suc i) n), apart i (λ e. omega arith), counts-one z (suc i) n (omega arith) (omega arith)))
      (λ a.
      let e : i ≡ k = omega arith in
      omega (
        arith,
        count_cons f i (range (suc i) n),
        count_cons g i (range (suc i) n),
        ap (λ (j : ℕ). one_if (f j)) e,
        ap one_if (ap g e ∙ z),
        counts-after (suc i) n (omega arith),
      ))

-- ---- the beliefs one by one

-- a test of what was drawn and of the present belief, which a grade without belief does not pass
module _ (is : Bool → Option Float → Bool) (no : (d : Bool) → is d none ≡ false) (drawn : List Bool) (n : ℕ) where
  abbrev of_grade : List Belief → ℕ → Bool
  of_grade xs g = is (get_or drawn g false) (present_of xs g)

  abbrev pub of_belief : Belief → Bool
  of_belief x = is (get_or drawn x.grade false) (some (entry 1 x.value))

  at_own : (x : Belief) (xs : List Belief) → present_of (x ∷ xs) x.grade ≡ some (entry 1 x.value)
  unfolding present_of
  at_own x xs = rw (eqb_same x.grade, present_of)

  elsewhere : (x : Belief) (xs : List Belief) (g : ℕ) → eqb x.grade g ≡ false → present_of (x ∷ xs) g ≡ present_of xs g
  unfolding present_of
  elsewhere x xs g e = rw (e, present_of)

  pub by_belief : (xs : List Belief) → NoDup eqb (belief_numbers xs) → All (λ g. g < n) (belief_numbers xs) → how_many (of_grade xs) (range 0 n) ≡ how_many of_belief xs
  unfolding present_of belief_numbers
  by_belief [] once below = ap length (filter_none (of_grade []) (range 0 n) (All-every (λ g. of_grade [] g ≡ false) (λ g. no (get_or drawn g false)) (range 0 n)))
  by_belief (x ∷ xs) once below =
      let d = get_or drawn x.grade false in
      counts-one (of_grade (x ∷ xs)) (of_grade xs) x.grade (λ j e. ap (is (get_or drawn j false)) (elsewhere x xs j e))
      (ap (is d) (not_among x.grade xs once.0) ∙ no d) 0 n (omega arith) (let l = below.0 in omega arith)
      ∙ (λ i. one_if (is d (at_own x xs i)) + by_belief xs once.1 below.1 i)
      ∙ sym (count_cons of_belief x xs)
