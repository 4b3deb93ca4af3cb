-- What an outcome says of a bale file, where four buffers of its own are lent for the answer: whether the file is accepted, and what they hold then.
use Rattle.std.specs.Prelude.{ℕ, ◌≡◌, refl, Ok, Err, List, Float, length, replicate}
use Rattle.std.specs.Prelude as std
use Rattle.std.proofs.Math.Path.{sym, ap}
use Rattle.std.proofs.Common.{◌∙◌}
use Rattle.std.proofs.Math.Option.{none, some}
use Rattle.std.proofs.lemmas.List.{length-replicate}
use Rattle.definition.specs.Floats.{zeroᶠ}
use Rattle.definition.specs.Settings.{Settings}
use Rattle.definition.specs.FactorGraph.{Bale}
use Rattle.definition.specs.Refusals.{Verdict, accepted, refused, work_needed}
use Rattle.definition.specs.Answer.{answer}
use Rattle.definition.specs.BaleFile.{words, settings_of_words, bale_of_words}
use Rattle.definition.specs.Call as definition
use Rattle.definition.specs.Call.{Lent, Result, sizes_of, answered, refused_at, answered_by, result_of}
use Rattle.definition.specs.FileAnswer.{buffers, file_verdict, file_result, accepted_answer, file_answer}
use Rattle.zero_lookahead_belief_propagation.specs.Called.{lent_with}
use Rattle.checks.specs.declared.refusal.FileRefusal.{FileRefusal}
use Rattle.zero_lookahead_belief_propagation.specs.declared.call.Counts.{Counts}
use Rattle.bale_answer.specs.Outcomes.{file_outcome_of, file_result_with}

-- the work, beside buffers of its own for the answer
abbrev pub lent_of : List Float → List ℕ → Lent
lent_of wf wn = lent_with wf wn (replicate 24 0) (replicate 48 zeroᶠ) (replicate 96 0) (replicate 24 zeroᶠ)

-- they are as long as they have to be
pub lent-sizes : (wf : List Float) (wn : List ℕ) → length wf ≡ 16128 → length wn ≡ 16128 → sizes_of (lent_of wf wn) ≡ buffers
unfolding sizes_of
lent-sizes wf wn f n =
    λ i. record {
      work_floats = f i;
      work_numbers = n i;
      belief_numbers = length-replicate {A = ℕ} 24 0 i;
      belief_floats = length-replicate 48 zeroᶠ i;
      ending_numbers = length-replicate {A = ℕ} 96 0 i;
      ending_floats = length-replicate 24 zeroᶠ i;
    }

-- ---- the outcome is the verdict

abbrev pub verdict_in : definition.Outcome → Verdict
verdict_in (answered n k) = accepted
verdict_in (refused_at n p) = refused n p

said : (v : Verdict) (s : Settings) (b : Bale) (l : Lent) → verdict_in (result_of v s b l).outcome ≡ v
unfolding result_of answered_by
said accepted s b l = refl
said (refused n p) s b l = refl

-- r and l are the outcome, and what the buffers hold afterwards
module _ (bs : List ℕ) (wf : List Float) (wn : List ℕ) (r : std.Result Counts FileRefusal) (l : Lent) (is : file_result_with r l ≡ file_result bs (lent_of wf wn)) where
  abbrev s : Settings
  s = settings_of_words (words bs)

  abbrev b : Bale
  b = bale_of_words (words bs)

  pub verdict-is : file_verdict bs ≡ verdict_in (file_outcome_of r)
  unfolding file_result
  verdict-is = sym (said (file_verdict bs) s b (lent_of wf wn)) ∙ ap (λ (x : Result). verdict_in x.outcome) (sym is)

  pub refuses : (f : FileRefusal) → r ≡ Err f → file_answer bs ≡ none
  unfolding file_answer accepted_answer
  refuses f e = ap (λ (v : Verdict). accepted_answer v s b) (verdict-is ∙ ap (λ (x : std.Result Counts FileRefusal). verdict_in (file_outcome_of x)) e)

  module _ (c : Counts) (a : r ≡ Ok c) where
    pub accepts : file_verdict bs ≡ accepted
    accepts = verdict-is ∙ ap (λ (x : std.Result Counts FileRefusal). verdict_in (file_outcome_of x)) a

    pub answers : file_answer bs ≡ some (answer s b)
    unfolding file_answer accepted_answer
    answers = ap (λ (v : Verdict). accepted_answer v s b) accepts

    pub left_is : file_result_with r l ≡ answered_by (work_needed b) (answer s b) (lent_of wf wn)
    unfolding file_result result_of
    left_is = is ∙ ap (λ (v : Verdict). result_of v s b (lent_of wf wn)) accepts
