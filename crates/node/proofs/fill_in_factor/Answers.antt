-- `node::fill_in_factor` meets its contract.
use mathlib.Core.Path.{◌≡◌, ap, ◌∙◌}
use mathlib.Core.List.{List, map}
use Prim.Native.Nat.{ℕ}
use lib.Ieee.{Float}
use Rattle.definition.specs.Floats.{◌⊘◌}
use Rattle.definition.specs.Vectors.{avoid_underflow_all}
use Rattle.definition.specs.Settings.{Settings}
use Rattle.definition.specs.NoisyOr.{cpd_rows}
use Rattle.node.specs.Rows.{flat_rows, given, row_total, table_plain, table_raised}
use Rattle.node.proofs.fill_in_factor.Goals as goal

-- what the two calls leave
divided : (s : Settings) (d : ℕ) (w v : List Float) (sum : Float) → w ≡ flat_rows (cpd_rows s d) → sum ≡ row_total s d → v ≡ map (λ (x : Float). x ⊘ sum) w → v ≡ map (λ (x : Float). x ⊘ row_total s d) (flat_rows (cpd_rows s d))
divided s d w v sum e f g = g ∙ ap (map (λ (x : Float). x ⊘ sum)) e ∙ ap (λ (y : Float). map (λ (x : Float). x ⊘ y) (flat_rows (cpd_rows s d))) f

pub returns-then-regularised : goal.returns-then-regularised
returns-then-regularised c =
    let a = c.args in
    let s = given a.alpha a.beta a.regularised in
    c.avoid_underflow.ensures
    ∙ ap avoid_underflow_all (divided s a.degree _ _ _ c.fill_rows-sum.ensures.0 c.fill_rows-sum.ensures.1 c.divide.ensures)
    ∙ table_raised s a.degree c.if-regularised.true

pub returns-else-regularised : goal.returns-else-regularised
returns-else-regularised c =
    let a = c.args in
    let s = given a.alpha a.beta a.regularised in
    divided s a.degree _ _ _ c.fill_rows-sum.ensures.0 c.fill_rows-sum.ensures.1 c.divide.ensures
    ∙ table_plain s a.degree c.if-regularised.false
