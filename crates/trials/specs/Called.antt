-- The call as the code has it, and the definition's.
use Rattle.std.specs.Prelude.{ℕ, ◌+◌, ◌*◌, ◌/◌, ◌≤◌, ◌<◌, ◌≡◌, Bool, false, Ok, Err, List, ◌++◌, ltb, Float, take, drop, replicate}
use Rattle.std.proofs.Common.{arith, ◌∙◌, length-take-le}
use Rattle.std.proofs.Math.Path.{sym, ap}
use Rattle.std.proofs.Math.ListN.{length, length-replicate}
use Rattle.definition.specs.Floats.{zeroᶠ, halfᶠ}
use Rattle.definition.specs.FactorGraph.{Bale}
use Rattle.definition.specs.Refusals.{Verdict, accepted, refused, work_needed, markers_of, pairs_of, bale_of, lowest_place, verdict}
use Rattle.definition.specs.Call.{overwrite}
use Rattle.definition.specs.Reads.{with_reads, all_weak}
use Rattle.definition.specs.Report.{ample_for, ReportLent, report_sizes, reported, report_result}
use Rattle.definition.specs.Trials.{TrialSetting, Trials, settings_with, settings_under, trial_counts, trial_verdict, trial_settings_of, trials_of, trial_call}
use Rattle.graph_laws.specs.Lists.{All-mono}
use Rattle.graph_laws.specs.Accepted.{passed, passes_all, no_place, valid, sized}
use Rattle.graph_laws.specs.Accepted as graph
use Rattle.graph_laws.specs.Bools.{or_no, no_ltb}
use Rattle.graph_laws.specs.Overwriting.{over-length, over_again}
use Rattle.report_laws.specs.Under.{all-weak_markers}
use Rattle.trial_laws.specs.Accepted.{InThousands, Accepted, accepted_call, under_accepted}
use Rattle.trial_laws.specs.Call.{call_same}
use Rattle.checks.specs.declared.refusal.Refusal.{Refusal}
use Rattle.checks.specs.Verdicts.{number_of}
use Rattle.checks.specs.Slices.{length_markers, length_pairs}
use Rattle.draws.specs.Present.{Known}
use Rattle.reads.specs.Put.{read_floats}
use Rattle.reads.specs.Ran.{room_with}
use Rattle.reads.specs.Room.{run_accepted}
use Rattle.reads.specs.Reported.{report_result_with}
use Rattle.trials.specs.Bale.{weak_bale, weak_markers, Tryable}
use Rattle.trials.specs.Each.{trials_at, TryableEach, length-settings}

-- a front of n entries that was lent and cleared
pub cleared : {A : Type 0} (z : A) (l part : List A) (k n : ℕ) → k ≡ n → n ≤ length l → part ≡ replicate (length (take k l)) z → part ++ drop k l ≡ overwrite (replicate n z) l
cleared z l part k n e h q =
    let long : length (take k l) ≡ n = length-take-le k l (omega arith) ∙ e in
    (λ i. (q ∙ ap (λ (j : ℕ). replicate j z) long) i ++ drop k l) ∙ ap (λ (j : ℕ). replicate n z ++ drop j l) (e ∙ sym (length-replicate n z))

module _ (ns : List ℕ) (x n : ℕ) (r : Bool) (e : Float) (k g m : ℕ) (ps : List ℕ) where
  -- the call is accepted
  abbrev pub Triable : ReportLent → Type 0
  Triable l = trial_verdict (report_sizes l) (trials_at ns x n r e k g m ps) ≡ accepted

  -- the settings are reported, and the needed work is zero
  pub record Tried (l l' : ReportLent) : Type 0 where
    pub work_floats : l'.work_floats ≡ overwrite (replicate (work_needed (weak_bale g m ps)) zeroᶠ) l.work_floats
    pub work_numbers : l'.work_numbers ≡ overwrite (replicate (work_needed (weak_bale g m ps)) 0) l.work_numbers
    pub report : l'.report ≡ overwrite (trial_counts (trials_at ns x n r e k g m ps)) l.report

  -- ---- what an accepted call leaves known

  module _ (l : ReportLent) (h : Triable l) where
    abbrev c : Trials
    c = trials_at ns x n r e k g m ps

    abbrev b : Bale
    b = weak_bale g m ps

    A : Accepted (report_sizes l) (trials_at ns x n r e k g m ps)
    A = accepted_call (report_sizes l) c h

    few_both : (length ns / 3 ≤ 64) × (n ≤ 1000)
    unfolding trial_verdict lowest_place
    few_both =
        let p = passed 17 _ _ (passed 16 _ _ h).1 in
        let q = or_no (ltb 64 (length (trial_settings_of ns))) (ltb 1000 n) (no_place 0 _ p.0).0 in
        (omega (arith, no_ltb 64 (length (trial_settings_of ns)) q.0, length-settings ns), no_ltb 1000 n q.1)

    pub few_settings : length ns / 3 ≤ 64
    few_settings = few_both.0

    sizes : graph.Sized (weak_bale g m ps)
    sizes = sized b A.sizes.counts

    pub few_grades : g ≤ 1024
    unfolding bale_of
    few_grades = sizes.grades

    pub few_markers : m ≤ 1024
    few_markers = omega (arith, sizes.markers, weak_markers g m ps)

    pub few_pairs : length ps / 2 ≤ 8192
    unfolding bale_of
    few_pairs = omega (arith, sizes.pairs, length_pairs ps)

    pub work-is : work_needed (weak_bale g m ps) ≡ 64 * (g + m + length ps / 2) + 4096
    unfolding work_needed bale_of
    work-is = omega (arith, weak_markers g m ps, length_pairs ps)

    pub floats_room : 64 * (g + m + length ps / 2) + 4096 ≤ length l.work_floats
    unfolding report_sizes
    floats_room = omega (arith, work-is, A.sizes.work_floats)

    pub numbers_room : 64 * (g + m + length ps / 2) + 4096 ≤ length l.work_numbers
    unfolding report_sizes
    numbers_room = omega (arith, work-is, A.sizes.work_numbers)

    -- ---- the pairs

    pairs-known : Known g m ps
    unfolding all_weak with_reads bale_of
    pairs-known =
        let half = settings_with c halfᶠ halfᶠ halfᶠ in
        let v = valid (all_weak b) (passes_all half (ample_for (report_sizes l) b) (all_weak b) A.weakly).known in
        let e = all-weak_markers b ∙ weak_markers g m ps in
        All-mono (λ q. (q.grade < g) × (q.marker < length (all_weak b).markers)) (λ q. (q.grade < g) × (q.marker < m)) (λ q z. (z.0, omega (arith, z.1, e))) (pairs_of ps) v

    -- ---- the settings, with the work cleared

    module _ (wf : List Float) (wn : List ℕ) (F : wf ≡ overwrite (replicate (work_needed (weak_bale g m ps)) zeroᶠ) l.work_floats)
        (N : wn ≡ overwrite (replicate (work_needed (weak_bale g m ps)) 0) l.work_numbers) where
      same_floats : length wf ≡ length l.work_floats
      unfolding report_sizes
      same_floats = ap length F ∙ over-length (replicate (work_needed b) zeroᶠ) l.work_floats (omega (arith, length-replicate (work_needed b) zeroᶠ, A.sizes.work_floats))

      same_numbers : length wn ≡ length l.work_numbers
      unfolding report_sizes
      same_numbers = ap length N ∙ over-length (replicate (work_needed b) 0) l.work_numbers (omega (arith, length-replicate {A = ℕ} (work_needed b) 0, A.sizes.work_numbers))

      setting_tryable : (t : TrialSetting) → InThousands t → Tryable (settings_under (trials_at ns x n r e k g m ps) t) g m ps wf wn
      unfolding report_sizes
      setting_tryable t i =
          record {
            grades = few_grades;
            markers = few_markers;
            pairs = few_pairs;
            known = pairs-known;
            accepts = λ rs long.
                (λ j. verdict (settings_under c t) (room_with (same_floats j) (same_numbers j) 1024 2048) (bale_of g (read_floats rs) ps))
                ∙ run_accepted (settings_under c t) (report_sizes l) g (read_floats (replicate m false)) ps rs (under_accepted c t i (report_sizes l) A rs (long ∙ sym (weak_markers g m ps)));
            clear_floats = ap (overwrite (replicate (work_needed b) zeroᶠ)) F ∙ over_again (replicate (work_needed b) zeroᶠ) l.work_floats ∙ sym F;
            clear_numbers = ap (overwrite (replicate (work_needed b) 0)) N ∙ over_again (replicate (work_needed b) 0) l.work_numbers ∙ sym N;
          }

      pub settings_tryable : TryableEach (trials_at ns x n r e k g m ps) g m ps wf wn (length l.report)
      unfolding report_sizes
      settings_tryable =
          record {
            few = omega (arith, few_settings, length-settings ns);
            bales = few_both.1;
            settings = A.settings;
            report = A.sizes.report;
            each = setting_tryable;
          }

-- ---- the call

module _ (ns : List ℕ) (x n : ℕ) (r : Bool) (e : Float) (k g : ℕ) (es : List Float) (ps : List ℕ) (l : ReportLent) where
  abbrev m : ℕ
  m = length es / 2

  call-is : trial_call (trials_of ns x n r e k g es ps) l ≡ trial_call (trials_at ns x n r e k g (length es / 2) ps) l
  unfolding bale_of
  call-is = call_same (trial_settings_of ns) x n r e k g (pairs_of ps) (markers_of es) (markers_of (read_floats (replicate m false))) (length_markers es ∙ sym (weak_markers g m ps)) l

  pub call_refused :
      (q : Refusal) → refused (number_of q.check) q.place ≡ trial_verdict (report_sizes l) (trials_of ns x n r e k g es ps) →
      report_result_with (Err q) l ≡ trial_call (trials_of ns x n r e k g es ps) l
  unfolding trial_call report_result
  call_refused q v = let c = trials_of ns x n r e k g es ps in ap (λ (w : Verdict). report_result w c.graph (length c.settings) (trial_counts c) l) v

  pub call_tried : (l' : ReportLent) (q : ℕ) → q ≡ length ns / 3 → Triable ns x n r e k g (length es / 2) ps l → Tried ns x n r e k g (length es / 2) ps l l' →
      report_result_with (Ok q) l' ≡ trial_call (trials_of ns x n r e k g es ps) l
  unfolding trial_call report_result
  call_tried l' q z h T =
      let c = trials_at ns x n r e k g m ps in
      (λ i. record {
        outcome = reported ((z ∙ sym (length-settings ns)) i);
        lent = record { work_floats = T.work_floats i; work_numbers = T.work_numbers i; report = T.report i };
      })
      ∙ ap (λ (w : Verdict). report_result w c.graph (length c.settings) (trial_counts c) l) (sym h)
      ∙ sym call-is
