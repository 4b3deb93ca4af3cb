-- The call that tries settings: of the evidence only its length counts, and what it leaves.
use Prim.Native.Nat.{ℕ, zero, suc, ◌*◌}
use Rattle.std.specs.Prelude.{◌≡◌, Bool, ◌||◌, eqb, Float, replicate}
use Rattle.std.proofs.Math.Path.{refl, ap}
use Rattle.std.proofs.Common.{◌∙◌}
use mathlib.Core.List.{List, [], ◌∷◌, map}
use Rattle.std.proofs.Math.Dec.{ltb}
use Rattle.std.proofs.Math.ListN.{length}
use Rattle.definition.specs.Floats.{halfᶠ}
use Rattle.definition.specs.Lists.{range, how_many, concat}
use Rattle.definition.specs.FactorGraph.{Evidence, Pair, Bale, grades_of}
use Rattle.definition.specs.Refusals.{Verdict, accepted, markers_of, pairs_of, bale_of, lowest_place, or_refused, verdict}
use Rattle.definition.specs.Reads.{with_reads, all_weak}
use Rattle.definition.specs.Report.{ReportBuffers, ample_for, sizes_verdict, ReportLent, report_sizes, ReportResult, report_result}
use Rattle.definition.specs.Trials.{draw_each, draw_reads, TrialSetting, MadeUp, marker_limits, read_limits, grade_limits, made_up, history, Trials, settings_with, settings_under, judgements, all_judgements, agrees, differs, setting_counts, trial_counts, setting_tests, trial_verdict, trial_settings_of, trial_call}
use Rattle.claims.specs.TriedSettings.{TrialEvidenceUnread, TrialCallAnswered}
use Rattle.report_laws.specs.Sizes.{Sized}
use Rattle.report_laws.specs.Result.{result_lengths}
use Rattle.report_laws.specs.Unread.{markers_same, weak-same, sizes-same, result_same}
use Rattle.trial_laws.specs.Report.{counts-long}
use Rattle.trial_laws.specs.Accepted.{accepted_call}

-- ---- the evidence

module _
    (ts : List TrialSetting) (seed bales : ℕ) (regularised : Bool) (tolerance : Float) (limit g : ℕ) (ps : List Pair)
    (ms ns : List Evidence) (e : length ms ≡ length ns) where
  abbrev given : List Evidence → Trials
  given xs =
      record {
        settings = ts;
        seed = seed;
        bales = bales;
        regularised = regularised;
        tolerance = tolerance;
        loop_limit = limit;
        graph = record { grades = g; markers = xs; pairs = ps };
      }

  made-same : (t : TrialSetting) (x : ℕ) → made_up t (given ms).graph x ≡ made_up t (given ns).graph x
  unfolding made_up read_limits grade_limits
  made-same t x =
      ap
      (λ (m : ℕ).
      let p = draw_each (replicate g t.prior) x in
      let r = draw_reads (map (λ k. marker_limits t p.successes (grades_of ps k)) (range 0 m)) p.state in
      record { presences = p.successes; reads = r.successes; state = r.state })
      e

  history-same : (t : TrialSetting) (n x : ℕ) → history t (given ms).graph n x ≡ history t (given ns).graph n x
  unfolding history
  history-same t zero x = refl
  history-same t (suc n) x = λ i. made-same t x i ∷ history-same t n (made-same t x i).state i

  judged-same : (t : TrialSetting) → all_judgements (given ms) t ≡ all_judgements (given ns) t
  unfolding all_judgements judgements settings_under settings_with with_reads
  judged-same t = ap (λ (h : List MadeUp). concat (map (judgements (settings_under (given ms) t) (given ms).graph) h)) (history-same t bales seed)

  counts_same : trial_counts (given ms) ≡ trial_counts (given ns)
  unfolding trial_counts setting_counts
  counts_same = λ i. concat (map (λ t. how_many agrees (judged-same t i) ∷ how_many differs (judged-same t i) ∷ []) ts)

  verdict-same : (f : ReportBuffers) → trial_verdict f (given ms) ≡ trial_verdict f (given ns)
  unfolding trial_verdict settings_with ample_for
  verdict-same f =
      let n = length ts in
      let b = (given ms).graph in
      let weakly : Bale → Verdict = λ x. or_refused 3 (lowest_place (setting_tests ts)) (verdict (settings_with (given ms) halfᶠ halfᶠ halfᶠ) (ample_for f b) x) in
      let sizes =
      sizes-same g ps ms ns e f (2 * n) (weakly (all_weak b)) ∙ ap (λ (x : Bale). sizes_verdict f (2 * n) (given ns).graph (weakly x)) (weak-same g ps ms ns e) in
      ap (λ (v : Verdict). or_refused 16 (lowest_place (eqb seed 0 ∷ [])) (or_refused 17 (lowest_place ((ltb 64 n || ltb 1000 bales) ∷ [])) v)) sizes

  pub call_same : (l : ReportLent) → trial_call (given ms) l ≡ trial_call (given ns) l
  unfolding trial_call
  call_same l =
      let n = length ts in
      result_same g ps ms ns e (trial_verdict (report_sizes l) (given ms)) n (trial_counts (given ms)) l
      ∙ (λ i. report_result (verdict-same (report_sizes l) i) (given ns).graph n (counts_same i) l)

pub trial_evidence_unread : TrialEvidenceUnread
unfolding bale_of
trial_evidence_unread ns x n r t l g es fs ps k e = call_same (trial_settings_of ns) x n r t l g (pairs_of ps) (markers_of es) (markers_of fs) (markers_same es fs e) k

-- ---- what it leaves

-- the report and the needed work fit
sized : (f : ReportBuffers) (c : Trials) → trial_verdict f c ≡ accepted → Sized f (length (trial_counts c)) c.graph
unfolding trial_counts
sized f c h = rw (counts-long c c.settings) (accepted_call f c h).sizes

pub trial_call_answered : TrialCallAnswered
unfolding trial_call report_result
trial_call_answered c l =
    let result_for : Verdict → ReportResult = λ v. report_result v c.graph (length c.settings) (trial_counts c) l in
    record {
      accepted_call = λ h. ap result_for h;
      refused_call = λ n p h. ap result_for h;
      same-lengths = result_lengths c.graph (length c.settings) (trial_counts c) l (trial_verdict (report_sizes l) c) (sized (report_sizes l) c);
    }
