-- Lists of floats: sums, `normalize`, `log_normalize`, `avoid_underflow` and `sum_logs_batched` of src/array_utils.rs.
use Rattle.std.specs.Prelude.{ℕ, zero, suc, ◌/◌, List, [], ◌∷◌, map, Float, length, take, drop}
use Rattle.definition.specs.Floats.{◌⊕◌, ◌⊖◌, ◌⊗◌, ◌⊘◌, zeroᶠ, oneᶠ, maxᶠ, avoid_underflow, ln, exp}

-- A message is a list of floats: [absent, present], or, between a factor and its convolution tree, one float for each number of present grades.
abbrev pub Message : Type 0
Message = List Float

-- entry i of a message
abbrev pub entry : ℕ → Message → Float
entry i [] = zeroᶠ
entry zero (x ∷ xs) = x
entry (suc i) (x ∷ xs) = entry i xs

-- the message of a binary variable
abbrev pub binary : Float → Float → Message
binary a b = a ∷ b ∷ []

-- ---- sums and products: from the first to the last

abbrev pub sum_from : Float → List Float → Float
sum_from a [] = a
sum_from a (x ∷ xs) = sum_from (a ⊕ x) xs

unfoldable pub sum_of : List Float → Float
sum_of = sum_from zeroᶠ

unfoldable pub product_from : Float → List Float → Float
product_from a [] = a
product_from a (x ∷ xs) = product_from (a ⊗ x) xs

unfoldable pub product_of : List Float → Float
product_of = product_from oneᶠ

-- a function of two lists' entries, as far as both go
abbrev pub zip_with : (Float → Float → Float) → List Float → List Float → List Float
zip_with f [] ys = []
zip_with f (x ∷ xs) [] = []
zip_with f (x ∷ xs) (y ∷ ys) = f x y ∷ zip_with f xs ys

-- ---- `normalize`: each entry divided by the sum of all

unfoldable pub normalize : List Float → List Float
normalize l = let s = sum_of l in map (λ (x : Float). x ⊘ s) l

-- `avoid_underflow`
unfoldable pub avoid_underflow_all : List Float → List Float
avoid_underflow_all = map avoid_underflow

-- ---- `log_normalize`: from two logarithms to two numbers of sum 1

unfoldable pub log_normalize : Float → Float → Message
log_normalize a b =
    let m = maxᶠ a b in
    let p = a ⊖ m in
    let q = b ⊖ m in
    let s = ln (exp p ⊕ exp q) in
    binary (exp (p ⊖ s)) (exp (q ⊖ s))

-- ---- `sum_logs_batched`, of one column: n blocks of ten, then the rest, each multiplied out before one logarithm

unfoldable pub sum_log_blocks : ℕ → Float → List Float → Float
sum_log_blocks zero a l = a ⊕ ln (product_of l)
sum_log_blocks (suc n) a l = sum_log_blocks n (a ⊕ ln (product_of (take 10 l))) (drop 10 l)

unfoldable pub sum_logs_batched : List Float → Float
sum_logs_batched l = sum_log_blocks (length l / 10) zeroᶠ l
