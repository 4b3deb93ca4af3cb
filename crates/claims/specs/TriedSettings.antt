-- What is claimed of settings tried on made-up bales (document 02, S-36). The crate `theorems` proves each of these types.
use Rattle.std.specs.Prelude.{ℕ, zero, suc, ◌+◌, ◌*◌, ◌%◌, ◌<◌, ◌≡◌, ◌↔◌, Bool, true, false, List, [], ◌∷◌, ◌++◌, map, ltb, Float, length, get_or, take, drop, replicate}
use Rattle.std.proofs.Math.Option.{some}
use Rattle.std.proofs.Math.ListN.{get_elem?}
use Rattle.definition.specs.Floats.{zeroᶠ, halfᶠ}
use Rattle.definition.specs.Lists.{range, how_many, concat}
use Rattle.definition.specs.FactorGraph.{Bale, marker_numbers, grades_of}
use Rattle.definition.specs.Refusals.{accepted, refused, work_needed, verdict}
use Rattle.definition.specs.Call.{overwrite}
use Rattle.definition.specs.Reads.{with_reads}
use Rattle.definition.specs.Report.{ReportBuffers, ample_for, ReportLent, report_sizes, reported, report_refused}
use Rattle.definition.specs.Trials.{next_number, draw_each, any_of, TrialSetting, MadeUp, present_among, read_limits, grade_limits, made_up, history, Trials, settings_with, settings_under, judgements, agrees, differs, trial_counts, outside_range, trial_verdict, trials_of, trial_call}
use Rattle.claims.specs.Parts.{in_pair, Binary32}
use Rattle.claims.specs.First.{First}
use Rattle.claims.specs.Refused.{Fails}

-- the bales that setting t makes up
abbrev pub made_up_by : Trials → TrialSetting → List MadeUp
made_up_by c t = history t c.graph c.bales c.seed

-- ---- (1) the report counts over the histories

abbrev pub tried_at : Trials → ℕ → ℕ
tried_at c i = get_or (trial_counts c) i 0

-- Setting t, the i-th: over every grade of every bale of its history, how often present above 1/2 agrees with the draw, and how often not.
pub record SettingCounted (c : Trials) (i : ℕ) (t : TrialSetting) : Type 0 where
  pub agreed : tried_at c (2 * i) ≡ how_many agrees (concat (map (judgements (settings_under c t) c.graph) (made_up_by c t)))
  pub differed : tried_at c (2 * i + 1) ≡ how_many differs (concat (map (judgements (settings_under c t) c.graph) (made_up_by c t)))

-- so it is of every setting, and the report has nothing else
pub record TrialsCounted (c : Trials) : Type 0 where
  pub long : length (trial_counts c) ≡ 2 * length c.settings
  pub each : (i : ℕ) (t : TrialSetting) → get_elem? c.settings i ≡ some t → SettingCounted c i t

abbrev pub HistoriesCounted : Type 0
HistoriesCounted = (c : Trials) → TrialsCounted c

-- Of an accepted call: a grade counts once a bale if it stands in a pair, and never if it does not.
abbrev pub PairedCounted : Type 0
PairedCounted = (f : ReportBuffers) (c : Trials) → trial_verdict f c ≡ accepted → (i : ℕ) → i < length c.settings →
    tried_at c (2 * i) + tried_at c (2 * i + 1) ≡ c.bales * how_many (in_pair c.graph) (range 0 c.graph.grades)

-- ---- (2) the history goes step by step

-- the state after m bales
abbrev pub state_after_bales : TrialSetting → Bale → ℕ → ℕ → ℕ
state_after_bales t b zero x = x
state_after_bales t b (suc m) x = state_after_bales t b m (made_up t b x).state

-- After m bales the history goes on from the state that they left. So the first m do not depend on how many follow.
pub record Splits (t : TrialSetting) (b : Bale) (m n x : ℕ) : Type 0 where
  pub parts : history t b (m + n) x ≡ history t b m x ++ history t b n (state_after_bales t b m x)
  pub first : take m (history t b (m + n) x) ≡ history t b m x
  pub many : length (history t b m x) ≡ m

abbrev pub HistorySplits : Type 0
HistorySplits = (t : TrialSetting) (b : Bale) (m n x : ℕ) → Splits t b m n x

-- ---- (3) no draw is skipped

-- the n-th number after x
abbrev pub number_after : ℕ → ℕ → ℕ
number_after zero x = x
number_after (suc n) x = number_after n (next_number x)

abbrev pub total : List ℕ → ℕ
total [] = 0
total (n ∷ ns) = n + total ns

-- all limits that a bale draws against, in order: those of its grades, then marker by marker
abbrev pub bale_limits : TrialSetting → Bale → ℕ → List ℕ
bale_limits t b x = grade_limits t b ++ concat (read_limits t b (made_up t b x).presences)

-- which of them succeed
abbrev pub bale_successes : TrialSetting → Bale → ℕ → List Bool
bale_successes t b x = (draw_each (bale_limits t b x) x).successes

-- a list cut into pieces, each as long as the list of limits at its place
abbrev pub cut_like : List (List ℕ) → List Bool → List (List Bool)
cut_like [] bs = []
cut_like (l ∷ ls) bs = take (length l) bs ∷ cut_like ls (drop (length l) bs)

-- A bale draws once for each grade, once for each marker and once for each present grade of each marker, whatever succeeds. Draw i has the (i + 1)-th number
-- after the state before. The presences are the first of the successes, and a read is strong if any success is the marker's own.
pub record NoneSkipped (t : TrialSetting) (b : Bale) (x : ℕ) : Type 0 where
  pub count :
      length (bale_limits t b x)
      ≡ b.grades + length b.markers + total (map (λ m. length (present_among (made_up t b x).presences (grades_of b.pairs m))) (marker_numbers b))
  pub each : (i : ℕ) → i < length (bale_limits t b x) → get_or (bale_successes t b x) i false ≡ ltb (number_after (suc i) x % 1024) (get_or (bale_limits t b x) i 0)
  pub state : (made_up t b x).state ≡ number_after (length (bale_limits t b x)) x
  pub presences : (made_up t b x).presences ≡ take b.grades (bale_successes t b x)
  pub reads : (made_up t b x).reads ≡ map any_of (cut_like (read_limits t b (made_up t b x).presences) (drop b.grades (bale_successes t b x)))

abbrev pub NoDrawSkipped : Type 0
NoDrawSkipped = (t : TrialSetting) (b : Bale) (x : ℕ) → NoneSkipped t b x

-- ---- (4) every bale that an accepted call makes up

-- The plain call accepts it, with room for its answer: no refusal is left out of the counts. Its floats are binary32 values: demand 3 speaks of its run.
pub record Runs (f : ReportBuffers) (c : Trials) (t : TrialSetting) (d : MadeUp) : Type 0 where
  pub accepts : verdict (settings_under c t) (ample_for f c.graph) (with_reads d.reads c.graph) ≡ accepted
  pub floats : Binary32 (settings_under c t) (with_reads d.reads c.graph)

abbrev pub MadeUpAccepted : Type 0
MadeUpAccepted = (f : ReportBuffers) (c : Trials) → trial_verdict f c ≡ accepted →
    (i k : ℕ) (t : TrialSetting) (d : MadeUp) → get_elem? c.settings i ≡ some t → get_elem? (made_up_by c t) k ≡ some d → Runs f c t d

-- ---- (5) of the evidence only its length counts

abbrev pub TrialEvidenceUnread : Type 0
TrialEvidenceUnread = (ns : List ℕ) (x n : ℕ) (r : Bool) (t : Float) (l g : ℕ) (es fs : List Float) (ps : List ℕ) (k : ReportLent) → length es ≡ length fs →
    trial_call (trials_of ns x n r t l g es ps) k ≡ trial_call (trials_of ns x n r t l g fs ps) k

-- ---- (6) a setting is reported as if it were tried alone

abbrev pub with_settings : Trials → List TrialSetting → Trials
with_settings c ts =
    record { settings = ts; seed = c.seed; bales = c.bales; regularised = c.regularised; tolerance = c.tolerance; loop_limit = c.loop_limit; graph = c.graph }

abbrev pub ReportedAlone : Type 0
ReportedAlone = (c : Trials) (i : ℕ) (t : TrialSetting) → get_elem? c.settings i ≡ some t →
    take 2 (drop (2 * i) (trial_counts c)) ≡ trial_counts (with_settings c (t ∷ []))

-- ---- (7) the table of refusals

-- Check n fails at place p: 16 for seed 0, 17 for too much to try, 2 for a report under two numbers a setting, 3 for a number of a setting outside 1 to 1,023;
-- all else as in a plain call, with room for its answer, but that numbers 3 and 5 are no checks.
pub data TrialFails (f : ReportBuffers) (c : Trials) : ℕ → ℕ → Type 0 where
  zero_seed : c.seed ≡ 0 → TrialFails f c 16 0
  many_settings : 64 < length c.settings → TrialFails f c 17 0
  many_bales : 1000 < c.bales → TrialFails f c 17 0
  short_report : f.report < 2 * length c.settings → TrialFails f c 2 0
  bad_alpha : (i : ℕ) {t : TrialSetting} → get_elem? c.settings i ≡ some t → outside_range t.alpha ≡ true → TrialFails f c 3 (3 * i)
  bad_beta : (i : ℕ) {t : TrialSetting} → get_elem? c.settings i ≡ some t → outside_range t.beta ≡ true → TrialFails f c 3 (3 * i + 1)
  bad_prior : (i : ℕ) {t : TrialSetting} → get_elem? c.settings i ≡ some t → outside_range t.prior ≡ true → TrialFails f c 3 (3 * i + 2)
  as_called : {n p : ℕ} → (n ≡ 3 → ⊥) → (n ≡ 5 → ⊥) → Fails (settings_with c halfᶠ halfᶠ halfᶠ) (ample_for f c.graph) c.graph n p → TrialFails f c n p

abbrev pub trial_order : List ℕ
trial_order = 16 ∷ 17 ∷ 1 ∷ 2 ∷ 3 ∷ 4 ∷ 6 ∷ 7 ∷ 8 ∷ []

-- a call is refused with the first cause in that order, and accepted exactly if there is none
pub record TrialsJudged (f : ReportBuffers) (c : Trials) : Type 0 where
  pub accepts : trial_verdict f c ≡ accepted ↔ ((n p : ℕ) → TrialFails f c n p → ⊥)
  pub refuses : (n p : ℕ) → trial_verdict f c ≡ refused n p ↔ First trial_order (TrialFails f c) n p

abbrev pub TrialTable : Type 0
TrialTable = (f : ReportBuffers) (c : Trials) → TrialsJudged f c

-- ---- (8) the call: its outcome and all that is lent, whose lengths stay

pub record TrialAnswered (c : Trials) (l : ReportLent) : Type 0 where
  pub accepted_call : trial_verdict (report_sizes l) c ≡ accepted →
      let w = work_needed c.graph in
      trial_call c l ≡ record {
        outcome = reported (length c.settings);
        lent = record {
          work_floats = overwrite (replicate w zeroᶠ) l.work_floats;
          work_numbers = overwrite (replicate w 0) l.work_numbers;
          report = overwrite (trial_counts c) l.report;
        };
      }
  pub refused_call : (n p : ℕ) → trial_verdict (report_sizes l) c ≡ refused n p → trial_call c l ≡ record { outcome = report_refused n p; lent = l }
  pub same-lengths : report_sizes (trial_call c l).lent ≡ report_sizes l

abbrev pub TrialCallAnswered : Type 0
TrialCallAnswered = (c : Trials) (l : ReportLent) → TrialAnswered c l
