-- The settings, one after the other, each from the seed.
use Rattle.std.specs.Prelude.{ℕ, zero, suc, ◌+◌, ◌*◌, ◌/◌, ◌≤◌, ◌<◌, ◌≡◌, Bool, false, Float, get_or, take, replicate}
use Rattle.std.proofs.Common.{add-one, arith, sym, ◌∙◌, take-suc, take_all, length-take-le}
use Rattle.std.proofs.Math.Path.{refl, ap, subst}
use mathlib.Core.List.{List, [], ◌∷◌, ◌++◌, map, map-append}
use Rattle.std.proofs.Math.ListN.{length, set, length-set}
use Rattle.std.proofs.lemmas.List.{length-replicate}
use Rattle.definition.specs.Lists.{concat}
use Rattle.definition.specs.Settings.{Settings}
use Rattle.definition.specs.Call.{overwrite}
use Rattle.definition.specs.Trials.{TrialSetting, Trials, settings_with, settings_under, all_judgements, setting_counts, trial_counts, trial_settings_of, trials_of}
use Rattle.graph_laws.specs.Lists.{All}
use Rattle.graph_laws.specs.AloneChecks.{All-getD}
use Rattle.graph_laws.specs.Overwriting.{over-two}
use Rattle.trial_laws.specs.Accepted.{InThousands}
use Rattle.trial_laws.specs.Report.{counts-long}
use Rattle.report_laws.specs.Counts.{concat_snoc}
use Rattle.reads.specs.Put.{read_floats, length-reads}
use Rattle.trials.specs.declared.trial.Trial.{Trial}
use Rattle.trials.specs.Bale.{Tryable}
use Rattle.trials.specs.Setting.{under_setting, TriedSetting}

-- what is given, the graph's markers read weakly
abbrev pub trials_at : List ℕ → ℕ → ℕ → Bool → Float → ℕ → ℕ → ℕ → List ℕ → Trials
trials_at ns x n r e l g m ps = trials_of ns x n r e l g (read_floats (replicate m false)) ps

pub weak-long : (m : ℕ) → length (read_floats (replicate m false)) / 2 ≡ m
weak-long m = omega (arith, length-reads (replicate m false), length-replicate m false)

pub record TryableEach (c : Trials) (g m : ℕ) (ps : List ℕ) (wf : List Float) (wn : List ℕ) (r : ℕ) : Type 0 where
  pub few : length c.settings ≤ 64
  pub bales : c.bales ≤ 1000
  pub settings : All InThousands c.settings
  pub report : 2 * length c.settings ≤ r
  pub each : (t : TrialSetting) → InThousands t → Tryable (settings_under c t) g m ps wf wn

-- ---- a setting's three numbers

pub length-settings : (ns : List ℕ) → length (trial_settings_of ns) ≡ length ns / 3
unfolding trial_settings_of
length-settings [] = omega arith
length-settings (a ∷ []) = omega arith
length-settings (a ∷ b ∷ []) = omega arith
length-settings (a ∷ b ∷ p ∷ l) = omega (arith, length-settings l)

abbrev pub numbers_at : List ℕ → ℕ → TrialSetting
numbers_at ns i = record { alpha = get_or ns (3 * i) 0; beta = get_or ns (3 * i + 1) 0; prior = get_or ns (3 * i + 2) 0 }

abbrev no_setting : TrialSetting
no_setting = record { alpha = 0; beta = 0; prior = 0 }

setting_at : (ns : List ℕ) (i : ℕ) → i < length ns / 3 → get_or (trial_settings_of ns) i no_setting ≡ numbers_at ns i
unfolding trial_settings_of
setting_at [] i h = absurd (let z : ⊥ = omega arith in z)
setting_at (a ∷ []) i h = absurd (let z : ⊥ = omega arith in z)
setting_at (a ∷ b ∷ []) i h = absurd (let z : ⊥ = omega arith in z)
setting_at (a ∷ b ∷ p ∷ l) zero h = refl
setting_at (a ∷ b ∷ p ∷ l) (suc i) h =
    let x : 3 * suc i ≡ suc (suc (suc (3 * i))) = omega arith in
    let y : 3 * suc i + 1 ≡ suc (suc (suc (3 * i + 1))) = omega arith in
    let z : 3 * suc i + 2 ≡ suc (suc (suc (3 * i + 2))) = omega arith in
    rw (z, y, x) (setting_at l i (omega arith))

pub setting_inside : (ns : List ℕ) (i : ℕ) → i < length ns / 3 → All InThousands (trial_settings_of ns) → InThousands (numbers_at ns i)
setting_inside ns i l h = subst InThousands (setting_at ns i l) (All-getD InThousands (trial_settings_of ns) h no_setting i (omega (arith, length-settings ns)))

-- ---- one setting more

module _ (ns : List ℕ) (x n : ℕ) (regularised : Bool) (tolerance : Float) (limit g m : ℕ) (ps : List ℕ) where
  abbrev c : Trials
  c = trials_at ns x n regularised tolerance limit g m ps

  pub under_same : (t : TrialSetting) → under_setting t regularised tolerance limit ≡ settings_under (trials_at ns x n regularised tolerance limit g m ps) t
  unfolding settings_under settings_with
  under_same t = refl

  abbrev counts_to : ℕ → List ℕ
  counts_to i = concat (map (setting_counts c) (take i (trial_settings_of ns)))

  counts-next : (i : ℕ) → i < length ns / 3 → counts_to (i + 1) ≡ counts_to i ++ setting_counts c (numbers_at ns i)
  counts-next i l =
      let ts = trial_settings_of ns in
      ap (λ (k : ℕ). counts_to k) (add-one i)
      ∙ ap (λ (y : List TrialSetting). concat (map (setting_counts c) y)) (take-suc ts i no_setting (omega (arith, length-settings ns)) ∙ ap (λ (t : TrialSetting). take i ts ++ t ∷ []) (setting_at ns i l))
      ∙ ap concat (map-append (setting_counts c) (take i ts) (numbers_at ns i ∷ []))
      ∙ concat_snoc (map (setting_counts c) (take i ts)) (setting_counts c (numbers_at ns i))

  -- the first i settings are reported over r₀
  pub record EachTo (r₀ : List ℕ) (i : ℕ) (r : List ℕ) : Type 0 where
    pub long : length r ≡ length r₀
    pub front : r ≡ overwrite (concat (map (setting_counts (trials_at ns x n regularised tolerance limit g m ps)) (take i (trial_settings_of ns)))) r₀

  pub each_next :
      (r₀ : List ℕ) (i : ℕ) (r : List ℕ) (s : Settings) (q : Trial) → i < length ns / 3 → 2 * (length ns / 3) ≤ length r₀ → EachTo r₀ i r →
      s ≡ under_setting (numbers_at ns i) regularised tolerance limit → TriedSetting s (numbers_at ns i) g m ps n x q →
      EachTo r₀ (i + 1) (set (set r (2 * i) q.agreed) (2 * i + 1) q.differed)
  unfolding setting_counts all_judgements
  each_next r₀ i r s q l room E e T =
      let t = numbers_at ns i in
      let long : length (counts_to i) ≡ 2 * i = counts-long c (take i (trial_settings_of ns)) ∙ ap (λ (k : ℕ). 2 * k) (length-take-le i (trial_settings_of ns) (omega (arith, length-settings ns))) in
      let T' : TriedSetting (settings_under c t) t g m ps n x q = subst (λ (y : Settings). TriedSetting y t g m ps n x q) (e ∙ under_same t) T in
      let two : (q.agreed ∷ q.differed ∷ []) ≡ setting_counts c t = λ k. T'.agreed k ∷ T'.differed k ∷ [] in
      record {
        long = length-set (set r (2 * i) q.agreed) (2 * i + 1) q.differed ∙ length-set r (2 * i) q.agreed ∙ E.long;
        front =
            ap (λ (y : List ℕ). set (set y (2 * i) q.agreed) (2 * i + 1) q.differed) E.front
            ∙ over-two 0 (counts_to i) r₀ (2 * i) q.agreed q.differed long (omega arith)
            ∙ ap (λ (y : List ℕ). overwrite (counts_to i ++ y) r₀) two
            ∙ ap (λ (y : List ℕ). overwrite y r₀) (sym (counts-next i l));
      }

  pub each_done : (r₀ : List ℕ) (i : ℕ) (r : List ℕ) → i ≡ length ns / 3 → EachTo r₀ i r → r ≡ overwrite (trial_counts (trials_at ns x n regularised tolerance limit g m ps)) r₀
  unfolding trial_counts
  each_done r₀ i r e E =
      E.front ∙ ap (λ (y : List TrialSetting). overwrite (concat (map (setting_counts c) y)) r₀) (take_all i (trial_settings_of ns) (omega (arith, length-settings ns)))
