-- `array_utils::exponential::exp_series` meets its contract: what is left of the series at h, from j - 1 down, is the whole of it.
use Rattle.std.proofs.Common.{◌≡◌, refl, ap, ◌∙◌, ℕ, zero, suc, ◌-◌, ◌≤◌, ◌<◌, arith, not-suc-le-zero}
use Rattle.std.specs.Prelude.{Float}
use lib.Ieee.{of_bits}
use Rattle.definition.specs.Floats.{◌⊕◌, ◌⊗◌, ◌⊘◌, oneᶠ, of_nat, exp_series}
use Rattle.array_utils.proofs.exponential.exp_series.Goals as goal

step : (j : ℕ) (r h : Float) → 0 < j → exp_series (j - 1) r (oneᶠ ⊕ (r ⊗ h) ⊘ of_nat j) ≡ exp_series j r h
unfolding exp_series
step zero r h p = absurd (not-suc-le-zero p)
step (suc j) r h p = let e : suc j - 1 ≡ j = omega arith in ap (λ (k : ℕ). exp_series k r (oneᶠ ⊕ (r ⊗ h) ⊘ of_nat (suc j))) e

pub loop-j-preserved : goal.loop-j-preserved
unfolding of_bits
loop-j-preserved c = let l = c.loop-j in step (l.j - 1) c.args.r l.h (omega arith) ∙ l.invariant

ended : (j : ℕ) (r h : Float) → j ≤ 0 → h ≡ exp_series j r h
unfolding exp_series
ended zero r h p = refl
ended (suc j) r h p = absurd (not-suc-le-zero p)

pub returns : goal.returns
returns c = let l = c.loop-j in ended (l.j - 1) c.args.r l.h (omega arith) ∙ l.invariant
