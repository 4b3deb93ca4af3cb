-- The exponential as the source takes it: 0 below -87, else the product of its two factors.
use Rattle.std.specs.Prelude.{◌≡◌, true, false, ℕ, ◌^◌, Float}
use Rattle.std.proofs.Common.{ap, ◌∙◌}
use Rattle.std.specs.Float.Ieee.{lt}
use Rattle.float_laws.specs.Table.{left, chose}
use Rattle.definition.specs.Floats.{◌⊕◌, ◌⊗◌, zeroᶠ, oneᶠ, ln2, minus87, of_nat, ratio, exp_series, exp_reduced, exp}
use Rattle.message_bounds.specs.Exp.{halvings}

pub exp-low : (y : Float) → lt y minus87 ≡ true → zeroᶠ ≡ exp y
unfolding exp
exp-low y e = chose (lt y minus87) zeroᶠ (exp_reduced (halvings y) y) e

pub exp-joined :
    (y h t : Float) (n : ℕ) →
    lt y minus87 ≡ false → n ≡ halvings y → h ≡ exp_series 7 (y ⊕ of_nat n ⊗ ln2) oneᶠ → t ≡ ratio 1 (2 ^ n) → h ⊗ t ≡ exp y
unfolding exp exp_reduced
exp-joined y h t n e p q r =
    ap (λ (u : Float). u ⊗ t) q
    ∙ ap (λ (u : Float). exp_series 7 (y ⊕ of_nat n ⊗ ln2) oneᶠ ⊗ u) r
    ∙ ap (λ (k : ℕ). exp_reduced k y) p
    ∙ left (lt y minus87) zeroᶠ (exp_reduced (halvings y) y) e
