-- Every bale that an accepted call makes up is one that the plain call accepts.
use Rattle.std.specs.Prelude.{ℕ, zero, suc, ◌*◌, ◌≡◌, Bool, true, List, [], ◌∷◌, map}
use Rattle.std.proofs.Math.Path.{refl, sym}
use Rattle.std.proofs.Common.{◌∙◌, subst}
use Rattle.std.proofs.Math.Bool.{false}
use Rattle.std.proofs.Math.Option.{some}
use Rattle.std.specs.Float.Ieee.{fits}
use Rattle.std.proofs.Math.ListN.{length, get_elem?, replicate, length-replicate}
use Rattle.std.proofs.lemmas.List.{length-map}
use Rattle.definition.specs.Floats.{halfᶠ}
use Rattle.definition.specs.FactorGraph.{Bale, marker_numbers, grades_of}
use Rattle.definition.specs.Refusals.{accepted, verdict, lowest_place}
use Rattle.definition.specs.Reads.{read_evidence, with_reads, all_weak}
use Rattle.definition.specs.Report.{ReportBuffers, ample_for}
use Rattle.definition.specs.Trials.{draw_each, TrialSetting, MadeUp, marker_limits, read_limits, grade_limits, made_up, history, Trials, settings_with, settings_under, outside_range, setting_tests, trial_verdict}
use Rattle.claims.specs.Parts.{SettingsFit, EvidenceFits, AllEvidence}
use Rattle.claims.specs.TriedSettings.{made_up_by, MadeUpAccepted}
use Rattle.graph_laws.specs.Lists.{All, length_count}
use Rattle.graph_laws.specs.Accepted.{no_place, passed, passes_all}
use Rattle.graph_laws.specs.FirstChecks.{nothing}
use Rattle.report_laws.specs.Under.{InRange, reads_accepted, room_under}
use Rattle.report_laws.specs.Sizes.{Sized, sizes-passed}
use Rattle.trial_laws.specs.Draws.{successes_length, reads-length}
use Rattle.trial_laws.specs.Range.{in_range, ratio-fits}

-- ---- a made-up bale has a presence for each grade and a read for each marker

pub made_presences : (t : TrialSetting) (b : Bale) (x : ℕ) → length (made_up t b x).presences ≡ b.grades
unfolding made_up grade_limits
made_presences t b x = successes_length (grade_limits t b) x ∙ length-replicate b.grades t.prior

pub made_reads : (t : TrialSetting) (b : Bale) (x : ℕ) → length (made_up t b x).reads ≡ length b.markers
unfolding made_up read_limits
made_reads t b x =
    let p = draw_each (grade_limits t b) x in
    reads-length (read_limits t b p.successes) p.state
    ∙ length-map (marker_numbers b) (λ m. marker_limits t p.successes (grades_of b.pairs m))
    ∙ length_count 0 (length b.markers)

pub history-reads : (t : TrialSetting) (b : Bale) (n x : ℕ) → All (λ d. length d.reads ≡ length b.markers) (history t b n x)
unfolding history
history-reads t b zero x = tt
history-reads t b (suc n) x = (made_reads t b x, history-reads t b n (made_up t b x).state)

-- what holds of all holds of each
all-at : {A : Type 0} (P : A → Type 0) (xs : List A) → All P xs → (i : ℕ) (x : A) → get_elem? xs i ≡ some x → P x
all-at P [] h i x e = absurd (nothing e)
all-at P (y ∷ xs) h zero x e = let z : y ≡ x = cc in subst P z h.0
all-at P (y ∷ xs) h (suc i) x e = all-at P xs h.1 i x e

-- ---- what an accepted call leaves known

-- each number of a setting lies in its range
pub record InThousands (t : TrialSetting) : Type 0 where
  pub alpha : outside_range t.alpha ≡ false
  pub beta : outside_range t.beta ≡ false
  pub prior : outside_range t.prior ≡ false

settings-inside : (ts : List TrialSetting) → All (λ c. c ≡ false) (setting_tests ts) → All InThousands ts
unfolding setting_tests
settings-inside [] h = tt
settings-inside (t ∷ ts) h = (record { alpha = h.0; beta = h.1.0; prior = h.1.1.0 }, settings-inside ts h.1.1.1)

pub record Accepted (f : ReportBuffers) (c : Trials) : Type 0 where
  pub sizes : Sized f (2 * length c.settings) c.graph
  pub settings : All InThousands c.settings
  pub weakly : verdict (settings_with c halfᶠ halfᶠ halfᶠ) (ample_for f c.graph) (all_weak c.graph) ≡ accepted

pub accepted_call : (f : ReportBuffers) (c : Trials) → trial_verdict f c ≡ accepted → Accepted f c
unfolding trial_verdict lowest_place
accepted_call f c h =
    let r = sizes-passed f (2 * length c.settings) c.graph _ (passed 17 _ _ (passed 16 _ _ h).1).1 in
    let p = passed 3 _ _ r.1 in
    record { sizes = r.0; settings = settings-inside c.settings (no_place 0 _ p.0); weakly = p.1 }

-- ---- every read of every setting

module _ (c : Trials) (t : TrialSetting) (i : InThousands t) where
  floats_inside : InRange (settings_under c t)
  unfolding settings_under settings_with
  floats_inside = (in_range t.alpha i.alpha, (in_range t.beta i.beta, (in_range t.prior i.prior, tt)))

  settings_fit : SettingsFit (settings_under c t)
  unfolding settings_under settings_with
  settings_fit = record { alpha = ratio-fits t.alpha i.alpha; beta = ratio-fits t.beta i.beta; prior = ratio-fits t.prior i.prior }

  pub under_accepted : (f : ReportBuffers) → Accepted f c → (rs : List Bool) → length rs ≡ length c.graph.markers →
      verdict (settings_under c t) (ample_for f c.graph) (with_reads rs c.graph) ≡ accepted
  unfolding all_weak settings_under settings_with
  under_accepted f A rs n =
      let b = c.graph in
      let weak = replicate (length b.markers) false in
      let half = settings_with c halfᶠ halfᶠ halfᶠ in
      let e : length weak ≡ length rs = length-replicate (length b.markers) false ∙ sym n in
      let room = (passes_all half (ample_for f b) (all_weak b) A.weakly).buffers.0 in
      reads_accepted half (settings_under c t) (ample_for f b) (ample_for f b) b weak rs e floats_inside refl refl
      (sym (room_under (ample_for f b) b weak rs e) ∙ room) A.weakly

read_fits : (r : Bool) → EvidenceFits (read_evidence r)
unfolding fits
read_fits true = record { absent = tt; present = tt }
read_fits false = record { absent = tt; present = tt }

reads_fit : (rs : List Bool) → AllEvidence EvidenceFits (map read_evidence rs)
reads_fit [] = tt
reads_fit (r ∷ rs) = (read_fits r, reads_fit rs)

pub made-up_accepted : MadeUpAccepted
unfolding with_reads
made-up_accepted f c h i k t d e q =
    let A = accepted_call f c h in
    let inside = all-at InThousands c.settings A.settings i t e in
    let long = all-at (λ (m : MadeUp). length m.reads ≡ length c.graph.markers) (made_up_by c t) (history-reads t c.graph c.bales c.seed) k d q in
    record { accepts = under_accepted c t inside f A d.reads long; floats = record { settings = settings_fit c t inside; evidence = reads_fit d.reads } }
