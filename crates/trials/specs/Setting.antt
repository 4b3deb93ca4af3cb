-- The bales of a setting, one after the other.
use Rattle.std.specs.Prelude.{ℕ, zero, suc, ◌+◌, ◌*◌, ◌^◌, ◌≤◌, ◌<◌, ◌≡◌, refl, Bool, Float}
use Rattle.std.proofs.Common.{mul-le-mul, sym, ◌∙◌}
use native.Mathlib.Omega.{arith}
use Rattle.std.proofs.Math.Path.{ap}
use mathlib.Core.List.{List, [], ◌∷◌, ◌++◌, map, map-append}
use Rattle.std.proofs.Math.ListN.{length, length-append, length-map}
use Rattle.definition.specs.Floats.{ratio}
use Rattle.definition.specs.Lists.{range, how_many, concat}
use Rattle.definition.specs.Settings.{Settings, settings_of}
use Rattle.definition.specs.Refusals.{bale_of}
use Rattle.definition.specs.Trials.{TrialSetting, MadeUp, made_up, history, Judgement, judgements, agrees, differs}
use Rattle.claims.specs.TriedSettings.{state_after_bales}
use Rattle.graph_laws.specs.Lists.{length_count}
use Rattle.report_laws.specs.Counts.{count_append, count_le, concat_snoc}
use Rattle.trial_laws.specs.History.{history-length, history-parts}
use Rattle.trials.specs.declared.trial.Trial.{Trial}
use Rattle.trials.specs.Bale.{weak_bale, TriedBale}

-- a setting in 1,024ths, with what comes with the call
abbrev pub under_setting : TrialSetting → Bool → Float → ℕ → Settings
under_setting t r e l = settings_of (ratio t.alpha 1024) (ratio t.beta 1024) (ratio t.prior 1024) r e l

module _ (s : Settings) (t : TrialSetting) (g m : ℕ) (ps : List ℕ) where
  -- what the first k bales from state x come to
  abbrev pub judged_after : ℕ → ℕ → List Judgement
  judged_after k x = concat (map (judgements s (weak_bale g m ps)) (history t (weak_bale g m ps) k x))

  pub record TriedSetting (k x : ℕ) (r : Trial) : Type 0 where
    pub state : r.state ≡ state_after_bales t (weak_bale g m ps) k x
    pub agreed : r.agreed ≡ how_many agrees (judged_after k x)
    pub differed : r.differed ≡ how_many differs (judged_after k x)

  -- ---- none, and one bale more

  pub tried_none : (x : ℕ) (r : Trial) → r.state ≡ x → r.agreed ≡ 0 → r.differed ≡ 0 → TriedSetting 0 x r
  unfolding history
  tried_none x r e a d = record { state = e; agreed = a; differed = d }

  state-next : (k x : ℕ) → state_after_bales t (weak_bale g m ps) (k + 1) x ≡ (made_up t (weak_bale g m ps) (state_after_bales t (weak_bale g m ps) k x)).state
  state-next zero x = refl
  state-next (suc k) x = ap (λ (n : ℕ). state_after_bales t (weak_bale g m ps) n x) (let e : suc k + 1 ≡ suc (k + 1) = omega arith in e) ∙ state-next k (made_up t (weak_bale g m ps) x).state

  judged-next : (k x : ℕ) → judged_after (k + 1) x ≡ judged_after k x ++ judgements s (weak_bale g m ps) (made_up t (weak_bale g m ps) (state_after_bales t (weak_bale g m ps) k x))
  unfolding history
  judged-next k x =
      let b = weak_bale g m ps in
      let d = made_up t b (state_after_bales t b k x) in
      let j = judgements s b in
      ap (λ (h : List MadeUp). concat (map j h)) (history-parts t b k 1 x)
      ∙ ap concat (map-append j (history t b k x) (d ∷ []))
      ∙ concat_snoc (map j (history t b k x)) (j d)

  pub tried_next : (k x : ℕ) (r q : Trial) → TriedSetting k x r → TriedBale s t g m ps r q → TriedSetting (k + 1) x q
  tried_next k x r q T B =
      let b = weak_bale g m ps in
      let at : (y : ℕ) → List Judgement = λ y. judgements s b (made_up t b y) in
      let more : (is : Judgement → Bool) → how_many is (judged_after (k + 1) x) ≡ how_many is (judged_after k x) + how_many is (at r.state) =
      λ is. ap (how_many is) (judged-next k x) ∙ count_append is (judged_after k x) (at (state_after_bales t b k x)) ∙ ap (λ (y : ℕ). how_many is (judged_after k x) + how_many is (at y)) (sym T.state) in
      record {
        state = B.state ∙ ap (λ (y : ℕ). (made_up t b y).state) T.state ∙ sym (state-next k x);
        agreed = omega (arith, B.agreed, T.agreed, more agrees);
        differed = omega (arith, B.differed, T.differed, more differs);
      }

  -- ---- they are few

  judged-long : (h : List MadeUp) → length (concat (map (judgements s (weak_bale g m ps)) h)) ≡ length h * g
  unfolding judgements bale_of
  judged-long [] = omega arith
  judged-long (d ∷ h) =
      let one = judgements s (weak_bale g m ps) d in
      let long : length one ≡ g = length-map (range 0 g) _ ∙ length_count 0 g in
      omega (arith, length-append one (concat (map (judgements s (weak_bale g m ps)) h)), judged-long h, long)

  pub few_judged : (is : Judgement → Bool) (k x : ℕ) → how_many is (judged_after k x) ≤ k * g
  few_judged is k x =
      let b = weak_bale g m ps in
      let e : length (judged_after k x) ≡ k * g = judged-long (history t b k x) ∙ ap (λ (n : ℕ). n * g) (history-length t b k x) in
      omega (arith, count_le is (judged_after k x), e)

  pub tried_room : (k x : ℕ) (r : Trial) → g ≤ 1024 → k ≤ 1000 → TriedSetting k x r → (r.agreed + 1024 < 2 ^ 32) × (r.differed + 1024 < 2 ^ 32)
  tried_room k x r small few T =
      let most : k * g ≤ 1000 * 1024 = mul-le-mul few small in
      (omega (arith, T.agreed, few_judged agrees k x), omega (arith, T.differed, few_judged differs k x))
