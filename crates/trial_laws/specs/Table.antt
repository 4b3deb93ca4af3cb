-- The table of refusals of a call that tries settings: refused with the first cause, 16 and 17 ahead of all others, and accepted exactly if there is none.
use Prim.Native.Nat.{ℕ, zero, suc, ◌+◌, ◌*◌}
use native.Mathlib.Omega.{arith}
use Rattle.std.specs.Prelude.{◌≡◌, refl, ◌⊎◌, Bool, true, false, ◌||◌, eqb, ltb, get_or}
use Rattle.std.proofs.Math.Path.{ap, subst}
use Rattle.std.proofs.Common.{◌∙◌, inl, inr, ltb-true, lt-ltb}
use Rattle.std.proofs.lemmas.Bool.{false≢true}
use Rattle.std.proofs.Math.Option.{none, some}
use mathlib.Core.List.{List, [], ◌∷◌, map}
use Rattle.std.specs.Float.Ieee.{le}
use Rattle.std.proofs.Math.ListN.{length, get_elem?}
use Rattle.definition.specs.Floats.{halfᶠ}
use Rattle.definition.specs.Settings.{Settings}
use Rattle.definition.specs.FactorGraph.{Bale, marker_numbers}
use Rattle.definition.specs.Refusals.{Verdict, outside, least_probability, greatest_probability, too_many, too_small, bad_tolerance, unknown_pair, lowest_place_from, lowest_place, repeated_pairs, too_many_grades, or_refused}
use Rattle.definition.specs.Report.{ReportBuffers, ample_for, sizes_verdict}
use Rattle.definition.specs.Trials.{TrialSetting, Trials, settings_with, outside_range, setting_tests, trial_verdict}
use Rattle.claims.specs.Refused.{Fails}
use Rattle.claims.specs.TriedSettings.{TrialFails, zero_seed, many_settings, many_bales, short_report, bad_alpha, bad_beta, bad_prior, as_called, trial_order, TrialTable}
use Rattle.graph_laws.specs.Bools.{or_cases, or_left, or_right, eqb_sound, eqb_same}
use Rattle.graph_laws.specs.FirstChecks.{Check, test, number_at, first_of, nothing, accepted_exactly, refused_exactly}
use Rattle.graph_laws.specs.Refused.{checks, row, listed}
use Rattle.report_laws.specs.Sizes.{from_four, sizes_once}

-- alpha, beta and prior at 1/2 pass number 3
abbrev pub halves : Trials → Settings
halves c = settings_with c halfᶠ halfᶠ halfᶠ

halves_pass : lowest_place (map (outside least_probability greatest_probability) (halfᶠ ∷ halfᶠ ∷ halfᶠ ∷ [])) ≡ none
unfolding outside le lowest_place lowest_place_from
halves_pass = refl

-- ---- the checks as lists of tests, in their order

module _ (f : ReportBuffers) (c : Trials) where
  abbrev b : Bale
  b = c.graph

  abbrev many : Bool
  many = ltb 64 (length c.settings) || ltb 1000 c.bales

  abbrev short : Bool
  short = ltb f.report (2 * length c.settings)

  abbrev trial_checks : List Check
  trial_checks =
      (16, eqb c.seed 0 ∷ [])
      ∷ (17, (ltb 64 (length c.settings) || ltb 1000 c.bales) ∷ [])
      ∷ (1, too_many 1024 1024 8192 c.graph ∷ [])
      ∷ (2, (ltb f.report (2 * length c.settings) || too_small (ample_for f c.graph) c.graph) ∷ [])
      ∷ (3, setting_tests c.settings)
      ∷ (4, bad_tolerance c.tolerance ∷ ltb 1000000 c.loop_limit ∷ [])
      ∷ (6, map (unknown_pair c.graph) c.graph.pairs)
      ∷ (7, repeated_pairs [] c.graph.pairs)
      ∷ (8, map (too_many_grades c.graph) (marker_numbers c.graph))
      ∷ []

  verdict-first : trial_verdict f c ≡ first_of trial_checks
  unfolding trial_verdict sizes_verdict settings_with unknown_pair too_many_grades or_refused
  verdict-first =
      let n = length c.settings in
      let three = lowest_place (setting_tests c.settings) in
      ap (λ (v : Verdict). or_refused 16 (lowest_place (eqb c.seed 0 ∷ [])) (or_refused 17 (lowest_place (many ∷ [])) v))
      (sizes_once (halves c) f (2 * n) b (or_refused 3 three)
      ∙ ap (λ o. sizes_verdict f (2 * n) b (or_refused 3 three (or_refused 3 o (from_four (halves c) b (length b.markers) none)))) halves_pass)

  -- ---- the rows

  zero_seed_lem : (p : ℕ) → get_or (eqb c.seed 0 ∷ []) p false ≡ true → TrialFails f c 16 p
  zero_seed_lem zero h = zero_seed (eqb_sound _ _ h)
  zero_seed_lem (suc p) h = absurd (false≢true h)

  too_many_lem : (p : ℕ) → get_or (many ∷ []) p false ≡ true → TrialFails f c 17 p
  too_many_lem (suc p) h = absurd (false≢true h)
  too_many_lem zero h = go (or_cases (ltb 64 (length c.settings)) (ltb 1000 c.bales) h)
    where
      go : (ltb 64 (length c.settings) ≡ true) ⊎ (ltb 1000 c.bales ≡ true) → TrialFails f c 17 0
      go (inl e) = many_settings (ltb-true _ _ e)
      go (inr e) = many_bales (ltb-true _ _ e)

  called : (n p : ℕ) → (n ≡ 3 → ⊥) → (n ≡ 5 → ⊥) → Fails (halves c) (ample_for f b) b n p → TrialFails f c n p
  called n p e d w = as_called e d w

  small : (p : ℕ) → get_or ((short || too_small (ample_for f b) b) ∷ []) p false ≡ true → TrialFails f c 2 p
  small (suc p) h = absurd (false≢true h)
  small zero h = go (or_cases short (too_small (ample_for f b) b) h)
    where
      go : (short ≡ true) ⊎ (too_small (ample_for f b) b ≡ true) → TrialFails f c 2 0
      go (inl e) = short_report (ltb-true _ _ e)
      go (inr e) = called 2 0 (omega arith) (omega arith) (row (halves c) (ample_for f b) b 1 0 e)

  -- a test of the settings ts, which stand from the i-th on
  setting_row : (ts : List TrialSetting) (i : ℕ) → ((k : ℕ) (t : TrialSetting) → get_elem? ts k ≡ some t → get_elem? c.settings (i + k) ≡ some t) →
      (p : ℕ) → get_or (setting_tests ts) p false ≡ true → TrialFails f c 3 (3 * i + p)
  unfolding setting_tests
  setting_row [] i at p h = absurd (false≢true h)
  setting_row (t ∷ ts) i at zero h = subst (TrialFails f c 3) (let z : 3 * (i + 0) ≡ 3 * i + 0 = omega arith in z) (bad_alpha (i + 0) (at 0 t refl) h)
  setting_row (t ∷ ts) i at (suc zero) h = subst (TrialFails f c 3) (let z : 3 * (i + 0) + 1 ≡ 3 * i + 1 = omega arith in z) (bad_beta (i + 0) (at 0 t refl) h)
  setting_row (t ∷ ts) i at (suc (suc zero)) h = subst (TrialFails f c 3) (let z : 3 * (i + 0) + 2 ≡ 3 * i + 2 = omega arith in z) (bad_prior (i + 0) (at 0 t refl) h)
  setting_row (t ∷ ts) i at (suc (suc (suc p))) h =
      subst (TrialFails f c 3) (let z : 3 * suc i + p ≡ 3 * i + suc (suc (suc p)) = omega arith in z)
      (setting_row ts (suc i) (λ k u e. let z : i + suc k ≡ suc i + k = omega arith in subst (λ (n : ℕ). get_elem? c.settings n ≡ some u) z (at (suc k) u e)) p h)

  bad_setting : (p : ℕ) → get_or (setting_tests c.settings) p false ≡ true → TrialFails f c 3 p
  bad_setting p h =
      subst (TrialFails f c 3) (let z : 3 * 0 + p ≡ p = omega arith in z)
      (setting_row c.settings 0 (λ k t e. let z : k ≡ 0 + k = omega arith in subst (λ (n : ℕ). get_elem? c.settings n ≡ some t) z e) p h)

  trial_row : (k p : ℕ) → test trial_checks k p ≡ true → TrialFails f c (number_at trial_checks k) p
  unfolding settings_with
  trial_row zero p h = zero_seed_lem p h
  trial_row (suc zero) p h = too_many_lem p h
  trial_row (suc (suc zero)) p h = called 1 p (omega arith) (omega arith) (row (halves c) (ample_for f b) b 0 p h)
  trial_row (suc (suc (suc zero))) p h = small p h
  trial_row (suc (suc (suc (suc zero)))) p h = bad_setting p h
  trial_row (suc (suc (suc (suc (suc zero))))) p h = called 4 p (omega arith) (omega arith) (row (halves c) (ample_for f b) b 3 p h)
  trial_row (suc (suc (suc (suc (suc (suc zero)))))) p h = called 6 p (omega arith) (omega arith) (row (halves c) (ample_for f b) b 5 p h)
  trial_row (suc (suc (suc (suc (suc (suc (suc zero))))))) p h = called 7 p (omega arith) (omega arith) (row (halves c) (ample_for f b) b 6 p h)
  trial_row (suc (suc (suc (suc (suc (suc (suc (suc zero)))))))) p h = called 8 p (omega arith) (omega arith) (row (halves c) (ample_for f b) b 7 p h)
  trial_row (suc (suc (suc (suc (suc (suc (suc (suc (suc k))))))))) p h = absurd (false≢true h)

  -- ---- and every row is a test that is true

  abbrev TrialListed : ℕ → ℕ → Type 0
  TrialListed n p = (k : ℕ) × (n ≡ number_at trial_checks k) × (test trial_checks k p ≡ true)

  -- a test of the plain call, but of 3 and 5, is one of these
  again : (n p k : ℕ) → (n ≡ 3 → ⊥) → (n ≡ 5 → ⊥) → n ≡ number_at (checks (halves c) (ample_for f b) b) k →
      test (checks (halves c) (ample_for f b) b) k p ≡ true → TrialListed n p
  unfolding settings_with
  again n zero (suc zero) d e i t = (3, i, or_right short _ t)
  again n (suc p) (suc zero) d e i t = absurd (false≢true t)
  again n p zero d e i t = (2, i, t)
  again n p (suc (suc zero)) d e i t = absurd (d i)
  again n p (suc (suc (suc zero))) d e i t = (5, i, t)
  again n p (suc (suc (suc (suc zero)))) d e i t = absurd (e i)
  again n p (suc (suc (suc (suc (suc zero))))) d e i t = (6, i, t)
  again n p (suc (suc (suc (suc (suc (suc zero)))))) d e i t = (7, i, t)
  again n p (suc (suc (suc (suc (suc (suc (suc zero))))))) d e i t = (8, i, t)
  again n p (suc (suc (suc (suc (suc (suc (suc (suc k)))))))) d e i t = absurd (false≢true t)

  -- the three tests of a setting
  setting_tests_lem : (ts : List TrialSetting) (i : ℕ) (t : TrialSetting) → get_elem? ts i ≡ some t →
      (get_or (setting_tests ts) (3 * i) false ≡ outside_range t.alpha)
      × (get_or (setting_tests ts) (3 * i + 1) false ≡ outside_range t.beta)
      × (get_or (setting_tests ts) (3 * i + 2) false ≡ outside_range t.prior)
  unfolding setting_tests
  setting_tests_lem [] i t e = absurd (nothing e)
  setting_tests_lem (u ∷ ts) zero t e =
      let z : u ≡ t = cc in
      (ap (λ (v : TrialSetting). outside_range v.alpha) z, ap (λ (v : TrialSetting). outside_range v.beta) z, ap (λ (v : TrialSetting). outside_range v.prior) z)
  setting_tests_lem (u ∷ ts) (suc i) t e =
      let r = setting_tests_lem ts i t e in
      let x : 3 * suc i ≡ suc (suc (suc (3 * i))) = omega arith in
      let y : 3 * suc i + 1 ≡ suc (suc (suc (3 * i + 1))) = omega arith in
      let z : 3 * suc i + 2 ≡ suc (suc (suc (3 * i + 2))) = omega arith in
      (rw x r.0, rw y r.1, rw z r.2)

  trial_listed : {n p : ℕ} → TrialFails f c n p → TrialListed n p
  trial_listed (zero_seed e) = (0, refl, ap (λ (x : ℕ). eqb x 0) e ∙ eqb_same 0)
  trial_listed (many_settings l) = (1, refl, or_left _ _ (lt-ltb _ _ l))
  trial_listed (many_bales l) = (1, refl, or_right (ltb 64 (length c.settings)) _ (lt-ltb _ _ l))
  trial_listed (short_report l) = (3, refl, or_left _ _ (lt-ltb _ _ l))
  trial_listed (bad_alpha i {t = t} e h) = (4, refl, (setting_tests_lem c.settings i t e).0 ∙ h)
  trial_listed (bad_beta i {t = t} e h) = (4, refl, (setting_tests_lem c.settings i t e).1 ∙ h)
  trial_listed (bad_prior i {t = t} e h) = (4, refl, (setting_tests_lem c.settings i t e).2 ∙ h)
  trial_listed (as_called {n = n} {p = p} d e w) = let t = listed (halves c) (ample_for f b) b w in again n p t.0 d e t.1 t.2

pub trial_table : TrialTable
trial_table f c =
    record {
      accepts = accepted_exactly trial_order (TrialFails f c) (trial_checks f c) (trial_verdict f c) (verdict-first f c) refl (trial_row f c) (λ n p. trial_listed f c);
      refuses = refused_exactly trial_order (TrialFails f c) (trial_checks f c) (trial_verdict f c) (verdict-first f c) refl (trial_row f c) (λ n p. trial_listed f c);
    }
