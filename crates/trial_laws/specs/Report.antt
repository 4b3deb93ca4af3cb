-- The report: two numbers for each setting, which are those of the setting tried alone.
use Prim.Native.Nat.{ℕ, zero, suc, ◌+◌, ◌*◌}
use native.Mathlib.Omega.{arith}
use Rattle.std.specs.Prelude.{◌≡◌, length, take, drop}
use Rattle.std.proofs.Math.Path.{refl, sym, ap}
use Rattle.std.proofs.Common.{◌∙◌, get_or-drop}
use Rattle.std.proofs.Math.Option.{some}
use mathlib.Core.List.{List, [], ◌∷◌, ◌++◌, map}
use Rattle.std.proofs.Math.ListN.{get_or, get_elem?}
use Rattle.definition.specs.Lists.{concat}
use Rattle.definition.specs.Trials.{TrialSetting, Trials, settings_with, settings_under, judgements, all_judgements, setting_counts, trial_counts}
use Rattle.claims.specs.TriedSettings.{HistoriesCounted, with_settings, ReportedAlone}
use Rattle.graph_laws.specs.FirstChecks.{nothing}

module _ (c : Trials) where
  abbrev pub counts_of : List TrialSetting → List ℕ
  counts_of ts = concat (map (setting_counts c) ts)

  pub counts-long : (ts : List TrialSetting) → length (counts_of ts) ≡ 2 * length ts
  unfolding setting_counts
  counts-long [] = refl
  counts-long (t ∷ ts) = omega (arith, counts-long ts)

  -- setting i's stand from place 2 i on
  counts-from : (ts : List TrialSetting) (i : ℕ) (t : TrialSetting) → get_elem? ts i ≡ some t → (l : List ℕ) × (drop (2 * i) (counts_of ts) ≡ setting_counts c t ++ l)
  unfolding setting_counts
  counts-from [] i t e = absurd (nothing e)
  counts-from (u ∷ ts) zero t e = let z : u ≡ t = cc in (counts_of ts, ap (λ (v : TrialSetting). setting_counts c v ++ counts_of ts) z)
  counts-from (u ∷ ts) (suc i) t e =
      let r = counts-from ts i t e in
      let z : 2 * suc i ≡ suc (suc (2 * i)) = omega arith in
      (r.0, rw z r.1)

  counts-at : (i k : ℕ) (t : TrialSetting) → get_elem? c.settings i ≡ some t → (v : ℕ) → ((l : List ℕ) → get_or (setting_counts c t ++ l) k 0 ≡ v) →
      get_or (trial_counts c) (2 * i + k) 0 ≡ v
  unfolding trial_counts
  counts-at i k t e v at =
      let r = counts-from c.settings i t e in
      sym (get_or-drop (2 * i) (counts_of c.settings) k 0) ∙ ap (λ (l : List ℕ). get_or l k 0) r.1 ∙ at r.0

pub histories_counted : HistoriesCounted
unfolding trial_counts setting_counts all_judgements
histories_counted c =
    record {
      long = counts-long c c.settings;
      each = λ i t e.
          let z : 2 * i ≡ 2 * i + 0 = omega arith in
          record { agreed = ap (λ (k : ℕ). get_or (trial_counts c) k 0) z ∙ counts-at c i 0 t e _ (λ l. refl); differed = counts-at c i 1 t e _ (λ l. refl) };
    }

-- of what is given a setting's counts do not see the other settings
alone-same : (c : Trials) (ts : List TrialSetting) (t : TrialSetting) → setting_counts (with_settings c ts) t ≡ setting_counts c t
unfolding setting_counts all_judgements judgements settings_under settings_with
alone-same c ts t = refl

pub reported_alone : ReportedAlone
unfolding trial_counts setting_counts
reported_alone c i t e = ap (take 2) (counts-from c c.settings i t e).1 ∙ sym (alone-same c (t ∷ []) t)
