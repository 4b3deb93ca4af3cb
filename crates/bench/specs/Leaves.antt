-- The leaves that are timed, made total: what lies outside a leaf's domain stays as it is.
use Rattle.std.specs.Prelude.{true, cond, ℕ, zero, suc, pos, Float}
use Rattle.std.specs.Float.{fin}
use Rattle.std.specs.Float.Ieee.{le}
use Rattle.definition.specs.Floats.{◌⊖◌, zeroᶠ, largest_finite, ln, exp, powi}
use Rattle.definition.specs.Vectors.{entry, log_normalize}

unfoldable pub exp_leaf : Float → Float
exp_leaf y = cond (le y zeroᶠ) (exp y) y

abbrev pub lowest : Float
lowest = fin true 16777215 (pos 104)

abbrev pub shares_apart : Float → Float
shares_apart x = let m = log_normalize x zeroᶠ in entry 0 m ⊖ entry 1 m

unfoldable pub log_normalize_leaf : Float → Float
log_normalize_leaf x = cond (le x largest_finite) (cond (le lowest x) (shares_apart x) x) x

unfoldable pub leaf_of : ℕ → Float → Float
leaf_of zero x = ln x
leaf_of (suc zero) x = exp_leaf x
leaf_of (suc (suc zero)) x = log_normalize_leaf x
leaf_of (suc (suc (suc n))) x = powi x n
