-- What one run under reads is given, and what it leaves.
use Rattle.std.specs.Prelude as std
use Rattle.std.specs.Prelude.{ℕ, ◌≡◌, refl, Ok, Err, List, Float, replicate}
use Rattle.std.proofs.Math.Path.{sym, ap}
use Rattle.std.proofs.Common.{◌∙◌}
use Rattle.std.proofs.Math.ListN.{length, length-replicate}
use Rattle.definition.specs.Floats.{zeroᶠ}
use Rattle.definition.specs.Settings as definition
use Rattle.definition.specs.Settings.{settings_of}
use Rattle.definition.specs.FactorGraph.{Bale}
use Rattle.definition.specs.Refusals.{Buffers, accepted, work_needed, bale_of, verdict}
use Rattle.definition.specs.Answer.{answer, answered_beliefs, belief_numbers, belief_floats}
use Rattle.definition.specs.Call as call
use Rattle.definition.specs.Call.{Lent, sizes_of, Result, answered, overwrite, answered_by, call}
use Rattle.graph_laws.specs.CallLengths.{call_accepted}
use Rattle.checks.specs.declared.refusal.Refusal.{Refusal}
use Rattle.zero_lookahead_belief_propagation.specs.declared.call.Counts.{Counts}
use Rattle.zero_lookahead_belief_propagation.specs.Called.{outcome_of, lent_with, result_with}
use Rattle.reads.specs.declared.Settings.{Settings}

abbrev pub settings_in : Settings → definition.Settings
settings_in s = settings_of s.alpha s.beta s.prior s.regularised s.tolerance s.loop_limit

-- what is lent, and the run's own endings
abbrev pub room_with : ℕ → ℕ → ℕ → ℕ → Buffers
room_with wf wn bn bf = record { work_floats = wf; work_numbers = wn; belief_numbers = bn; belief_floats = bf; ending_numbers = 4096; ending_floats = 1024 }

-- the beliefs stand at the fronts of their buffers, and the work that was needed is zero
pub record Ran (s : definition.Settings) (b : Bale) (wf : List Float) (wn bn : List ℕ) (bf : List Float) (r : ℕ) (wf' : List Float) (wn' bn' : List ℕ) (bf' : List Float) : Type 0 where
  pub count : r ≡ length (answered_beliefs (answer s b))
  pub work_floats : wf' ≡ overwrite (replicate (work_needed b) zeroᶠ) wf
  pub work_numbers : wn' ≡ overwrite (replicate (work_needed b) 0) wn
  pub numbers : bn' ≡ overwrite (belief_numbers (answered_beliefs (answer s b))) bn
  pub floats : bf' ≡ overwrite (belief_floats (answered_beliefs (answer s b))) bf

abbrev lent_by : List Float → List ℕ → List ℕ → List Float → Lent
lent_by wf wn bn bf = lent_with wf wn bn bf (replicate 4096 0) (replicate 1024 zeroᶠ)

-- the beliefs that an outcome counts
abbrev pub count_in : call.Outcome → ℕ
count_in (answered n k) = n
count_in (call.refused_at n p) = 0

is-ok : (o : std.Result Counts Refusal) (n k : ℕ) → outcome_of o ≡ answered n k → std.IsOk o
is-ok (Ok c) n k e = refl
is-ok (Err r) n k e = cc

module _
    (s : definition.Settings) (g : ℕ) (es : List Float) (ps : List ℕ) (wf : List Float) (wn bn : List ℕ) (bf : List Float)
    (h : verdict s (room_with (length wf) (length wn) (length bn) (length bf)) (bale_of g es ps) ≡ accepted)
    (o : std.Result Counts Refusal) (l : Lent) (e : result_with o l ≡ call s g es ps (lent_by wf wn bn bf)) where
  sizes_are : sizes_of (lent_by wf wn bn bf) ≡ room_with (length wf) (length wn) (length bn) (length bf)
  unfolding sizes_of
  sizes_are =
      λ i. record {
        work_floats = length wf;
        work_numbers = length wn;
        belief_numbers = length bn;
        belief_floats = length bf;
        ending_numbers = length-replicate {A = ℕ} 4096 0 i;
        ending_floats = length-replicate 1024 zeroᶠ i;
      }

  result_is : result_with o l ≡ answered_by (work_needed (bale_of g es ps)) (answer s (bale_of g es ps)) (lent_by wf wn bn bf)
  result_is = e ∙ call_accepted s g es ps (lent_by wf wn bn bf) (ap (λ f. verdict s f (bale_of g es ps)) sizes_are ∙ h)

  pub has_counts : std.IsOk o
  unfolding answered_by
  has_counts = is-ok o _ _ (ap (λ (x : Result). x.outcome) result_is)

  pub ran : (c : Counts) → o ≡ Ok c → Ran s (bale_of g es ps) wf wn bn bf c.beliefs l.work_floats l.work_numbers l.belief_numbers l.belief_floats
  unfolding answered_by
  ran c q =
      record {
        count = sym (ap (λ (r : std.Result Counts Refusal). count_in (outcome_of r)) q) ∙ ap (λ (x : Result). count_in x.outcome) result_is;
        work_floats = ap (λ (x : Result). x.lent.work_floats) result_is;
        work_numbers = ap (λ (x : Result). x.lent.work_numbers) result_is;
        numbers = ap (λ (x : Result). x.lent.belief_numbers) result_is;
        floats = ap (λ (x : Result). x.lent.belief_floats) result_is;
      }
