-- The history goes step by step.
use Prim.Native.Nat.{ℕ, zero, suc, ◌+◌}
use native.Mathlib.Omega.{arith}
use Rattle.std.specs.Prelude.{◌≡◌, length, take}
use Rattle.std.proofs.Math.Path.{refl, ap}
use Rattle.std.proofs.Common.{◌∙◌, take_at}
use mathlib.Core.List.{List, ◌∷◌, ◌++◌}
use Rattle.definition.specs.FactorGraph.{Bale}
use Rattle.definition.specs.Trials.{TrialSetting, MadeUp, made_up, history}
use Rattle.claims.specs.TriedSettings.{state_after_bales, HistorySplits}

module _ (t : TrialSetting) (b : Bale) where
  pub history-length : (m x : ℕ) → length (history t b m x) ≡ m
  unfolding history
  history-length zero x = refl
  history-length (suc m) x = ap suc (history-length m (made_up t b x).state)

  pub history-parts : (m n x : ℕ) → history t b (m + n) x ≡ history t b m x ++ history t b n (state_after_bales t b m x)
  unfolding history
  history-parts zero n x = let e : 0 + n ≡ n = omega arith in rw e
  history-parts (suc m) n x =
      let e : suc m + n ≡ suc (m + n) = omega arith in
      rw e (ap (λ (h : List MadeUp). made_up t b x ∷ h) (history-parts m n (made_up t b x).state))

-- claim (2)
pub history_splits : HistorySplits
history_splits t b m n x =
    record {
      parts = history-parts t b m n x;
      first = ap (take m) (history-parts t b m n x) ∙ take_at (history t b m x) _ m (history-length t b m x);
      many = history-length t b m x;
    }
