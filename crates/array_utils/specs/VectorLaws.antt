-- Sums and products, one entry further.
use Rattle.std.specs.Prelude.{◌≡◌, refl, List, [], ◌∷◌, ◌++◌, ℕ, suc, ◌<◌, length, take, get_or, Float}
use Rattle.std.proofs.Common.{ap, ◌∙◌, take-suc}
use Rattle.std.specs.Float.{nan}
use Rattle.definition.specs.Floats.{◌⊕◌, ◌⊗◌, zeroᶠ, oneᶠ}
use Rattle.definition.specs.Vectors.{sum_from, sum_of, product_from, product_of}

-- ---- the step of a loop that adds
total_snoc : (a : Float) (xs : List Float) (x : Float) → sum_from a (xs ++ (x ∷ [])) ≡ sum_from a xs ⊕ x
total_snoc a [] x = refl
total_snoc a (y ∷ xs) x = total_snoc (a ⊕ y) xs x

pub total-none : (xs : List Float) → zeroᶠ ≡ sum_of (take 0 xs)
unfolding sum_of
total-none xs = refl

pub total_step : (xs : List Float) (i : ℕ) → i < length xs → sum_of (take (suc i) xs) ≡ sum_of (take i xs) ⊕ get_or xs i nan
unfolding sum_of
total_step xs i h = ap (sum_from zeroᶠ) (take-suc xs i nan h) ∙ total_snoc zeroᶠ (take i xs) (get_or xs i nan)

-- ---- and of one that multiplies
product_snoc : (a : Float) (xs : List Float) (x : Float) → product_from a (xs ++ (x ∷ [])) ≡ product_from a xs ⊗ x
unfolding product_from
product_snoc a [] x = refl
product_snoc a (y ∷ xs) x = product_snoc (a ⊗ y) xs x

pub product-none : (xs : List Float) → oneᶠ ≡ product_of (take 0 xs)
unfolding product_of product_from
product-none xs = refl

pub product_step : (xs : List Float) (i : ℕ) → i < length xs → product_of (take (suc i) xs) ≡ product_of (take i xs) ⊗ get_or xs i nan
unfolding product_of
product_step xs i h = ap (product_from oneᶠ) (take-suc xs i nan h) ∙ product_snoc oneᶠ (take i xs) (get_or xs i nan)
