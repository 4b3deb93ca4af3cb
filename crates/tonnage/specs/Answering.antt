-- What the buffers of a bale file's answer hold, as `add_bale` takes it.
use Rattle.std.specs.Prelude as std
use Rattle.std.specs.Prelude.{ℕ, ◌*◌, ◌≤◌, ◌≡◌, refl, Ok, Err, Bool, true, false, List, Float, length, drop}
use Rattle.std.proofs.Common.{arith, ◌∙◌, subst, length-take}
use Rattle.std.proofs.Math.Path.{sym, ap}
use Rattle.std.proofs.Math.Option.{none, some}
use Rattle.std.proofs.Math.ListN.{take}
use Rattle.std.proofs.Math.Seq.{take-append_seam}
use Rattle.definition.specs.Answer.{Belief, PartAnswer, answer, answered_beliefs, belief_numbers, belief_floats}
use Rattle.definition.specs.BaleFile.{words, settings_of_words, bale_of_words}
use Rattle.definition.specs.Refusals.{work_needed}
use Rattle.definition.specs.Call as definition
use Rattle.definition.specs.Call.{Lent, Result, answered, refused_at, overwrite, answered_by}
use Rattle.definition.specs.FileAnswer.{file_result, file_answer}
use Rattle.definition.specs.Tonnage.{add_each, grams_in}
use Rattle.checks.specs.declared.refusal.FileRefusal.{FileRefusal}
use Rattle.zero_lookahead_belief_propagation.specs.declared.call.Counts.{Counts}
use Rattle.bale_answer.specs.Outcomes.{file_outcome_of, file_result_with}
use Rattle.bale_answer.specs.Answering.{lent_of, refuses, answers, left_is}
use Rattle.shares.specs.Adding.{Low, Addable, Added}
use Rattle.shares.specs.Bales.{sizes, answer_addable, answer-added}

-- a bale file's answer, weighed and added; or it has none, and the totals are as they were
abbrev pub AnswerAdded : List ℕ → ℕ → List ℕ → Bool → List ℕ → Type 0
AnswerAdded bs w ts true us = (qs : List PartAnswer) × (file_answer bs ≡ some qs) × ((b : ℕ) → us ≡ add_each (grams_in (record { bale = b; kilograms = w }) qs) 0 ts)
AnswerAdded bs w ts false us = (file_answer bs ≡ none) × (us ≡ ts)

-- where it is known whether there was one
pub added-as : (bs : List ℕ) (w : ℕ) (ts us : List ℕ) (r q : Bool) → r ≡ q → AnswerAdded bs w ts r us → AnswerAdded bs w ts q us
added-as bs w ts us r q e a = subst (λ (x : Bool). AnswerAdded bs w ts x us) e a

-- the front of a buffer that was written over
front : {A : Type 0} (n : ℕ) (xs ys : List A) → length xs ≡ n → take n (overwrite xs ys) ≡ xs
front n xs ys e = ap (λ (m : ℕ). take m (overwrite xs ys)) (sym e) ∙ take-append_seam xs (drop (length xs) ys)

abbrev beliefs_in : definition.Outcome → ℕ
beliefs_in (answered n k) = n
beliefs_in (refused_at n p) = 0

module _ (bs : List ℕ) (wf : List Float) (wn : List ℕ) (r : std.Result Counts FileRefusal) (l : Lent) (is : file_result_with r l ≡ file_result bs (lent_of wf wn)) where
  pub none-added : (f : FileRefusal) → r ≡ Err f → (w : ℕ) (ts : List ℕ) → AnswerAdded bs w ts false ts
  none-added f e w ts = (refuses bs wf wn r l is f e, refl)

  module _ (c : Counts) (a : r ≡ Ok c) where
    abbrev n : ℕ
    n = c.beliefs

    abbrev parts : List PartAnswer
    parts = answer (settings_of_words (words bs)) (bale_of_words (words bs))

    abbrev beliefs : List Belief
    beliefs = answered_beliefs parts

    left : file_result_with r l ≡ answered_by (work_needed (bale_of_words (words bs))) parts (lent_of wf wn)
    left = left_is bs wf wn r l is c a

    many : length beliefs ≡ n
    unfolding answered_by
    many = sym (ap beliefs_in (ap file_outcome_of (sym a) ∙ ap (λ (x : Result). x.outcome) left))

    pub few : n ≤ 24
    few = omega (arith, (sizes bs parts (answers bs wf wn r l is c a)).few, many)

    numbers_are : take n l.belief_numbers ≡ belief_numbers beliefs
    unfolding answered_by
    numbers_are =
        ap (λ (x : Result). take n x.lent.belief_numbers) left
        ∙ front n (belief_numbers beliefs) _ ((sizes bs parts (answers bs wf wn r l is c a)).numbers-long ∙ many)

    floats_are : take (2 * n) l.belief_floats ≡ belief_floats beliefs
    unfolding answered_by
    floats_are =
        ap (λ (x : Result). take (2 * n) x.lent.belief_floats) left
        ∙ front (2 * n) (belief_floats beliefs) _ ((sizes bs parts (answers bs wf wn r l is c a)).floats_long ∙ ap (λ (m : ℕ). 2 * m) many)

    -- as many as are lent of them
    pub numbers_count : n ≡ length (take n l.belief_numbers)
    numbers_count = sym (ap length numbers_are ∙ (sizes bs parts (answers bs wf wn r l is c a)).numbers-long ∙ many)

    pub numbers_fit : n ≤ length l.belief_numbers
    numbers_fit = let e = numbers_count ∙ length-take n l.belief_numbers in omega arith

    pub floats_count : 2 * n ≡ length (take (2 * n) l.belief_floats)
    floats_count = sym (ap length floats_are ∙ (sizes bs parts (answers bs wf wn r l is c a)).floats_long ∙ ap (λ (m : ℕ). 2 * m) many)

    module _ (w : ℕ) (ts : List ℕ) where
      pub some_addable : w ≤ 2000 → Low ts → Addable ts (1000 * w) (take n l.belief_numbers) (take (2 * n) l.belief_floats)
      some_addable h low =
          rw (numbers_are, floats_are) (answer_addable bs parts (answers bs wf wn r l is c a) (record { bale = 0; kilograms = w }) ts h low)

      pub some-added : (us : List ℕ) → Added ts (1000 * w) (take n l.belief_numbers) (take (2 * n) l.belief_floats) us → AnswerAdded bs w ts true us
      some-added us x =
          let y : Added ts (1000 * w) (belief_numbers beliefs) (belief_floats beliefs) us = rw (numbers_are, floats_are) at x in
          let e = answers bs wf wn r l is c a in
          (parts, e, λ b. answer-added bs parts e (record { bale = b; kilograms = w }) ts us y)
