-- The exact sums, over whole numbers. A leaf has a weight for absent and one for present.
-- `weight k ms` is the sum, over the ways in which k of the leaves are present, of the products of their weights;
-- `like g ms t` is the sum over all ways of the product times g of t and the number of those present; `total ms` is the sum over all ways.
use Rattle.std.specs.Prelude.{◌≡◌, refl, List, [], ◌∷◌, ◌++◌, ℕ, zero, suc, ◌+◌, ◌*◌, ◌<◌, length}
use Rattle.std.proofs.Common.{sym, ap, ◌∙◌, zero-mul, add-zero, zero-add, suc-add, add-suc, not-suc-le-zero, arith}

pub record Leaf : Type 0 where
  pub absent : ℕ
  pub present : ℕ

abbrev pub weight : ℕ → List Leaf → ℕ
weight zero [] = 1
weight (suc k) [] = 0
weight zero (m ∷ ms) = m.absent * weight zero ms
weight (suc k) (m ∷ ms) = m.absent * weight (suc k) ms + m.present * weight k ms

abbrev pub like : (ℕ → ℕ) → List Leaf → ℕ → ℕ
like g [] t = g t
like g (m ∷ ms) t = m.absent * like g ms t + m.present * like g ms (suc t)

abbrev pub total : List Leaf → ℕ
total [] = 1
total (m ∷ ms) = (m.absent + m.present) * total ms

-- f 1, f 2, ..
abbrev pub later : (ℕ → ℕ) → ℕ → ℕ
later f i = f (suc i)

-- the sum of f 0 to f (n - 1)
abbrev pub sum_below : ℕ → (ℕ → ℕ) → ℕ
sum_below zero f = 0
sum_below (suc n) f = f 0 + sum_below n (later f)

-- ---- sums
pub sum_same : (n : ℕ) (f g : ℕ → ℕ) → ((i : ℕ) → f i ≡ g i) → sum_below n f ≡ sum_below n g
sum_same zero f g h = refl
sum_same (suc n) f g h = cc (h 0, sum_same n (later f) (later g) (λ (i : ℕ). h (suc i)))

sum_linear : (n a b : ℕ) (f g : ℕ → ℕ) → sum_below n (λ (i : ℕ). a * f i + b * g i) ≡ a * sum_below n f + b * sum_below n g
sum_linear zero a b f g = omega arith
sum_linear (suc n) a b f g = omega (arith, sum_linear n a b (later f) (later g))

sum-none : (n : ℕ) → sum_below n (λ (i : ℕ). 0) ≡ 0
sum-none zero = refl
sum-none (suc n) = zero-add (sum_below n (λ (i : ℕ). 0)) ∙ sum-none n

pub sum-zero : (n : ℕ) (e g : ℕ → ℕ) → ((i : ℕ) → e i ≡ 0) → sum_below n (λ (i : ℕ). e i * g i) ≡ 0
sum-zero n e g h = sum_same n (λ (i : ℕ). e i * g i) (λ (i : ℕ). 0) (λ (i : ℕ). rw (h i) (zero-mul (g i))) ∙ sum-none n

-- ---- beyond the number of leaves there is nothing
pub weight_beyond : (k : ℕ) (ms : List Leaf) → length ms < k → weight k ms ≡ 0
weight_beyond zero ms h = absurd (not-suc-le-zero h)
weight_beyond (suc k) [] h = refl
weight_beyond (suc k) (m ∷ ms) h = rw (weight_beyond (suc k) ms (omega arith), weight_beyond k ms (omega arith)) (omega arith)

-- ---- all of them together
pub sum_weights : (n : ℕ) (ms : List Leaf) → length ms < n → sum_below n (λ (k : ℕ). weight k ms) ≡ total ms
sum_weights zero ms h = absurd (not-suc-le-zero h)
sum_weights (suc n) [] h = omega (arith, sum-none n)
sum_weights (suc n) (m ∷ ms) h =
    let all = sum_linear n m.absent m.present (λ (k : ℕ). weight (suc k) ms) (λ (k : ℕ). weight k ms) in
    omega (arith, all, ap (λ (z : ℕ). m.absent * z) (sum_weights (suc n) ms (omega arith)), ap (λ (z : ℕ). m.present * z) (sum_weights n ms (omega arith)))

pub total_append : (ls bs : List Leaf) → total (ls ++ bs) ≡ total ls * total bs
total_append [] bs = omega arith
total_append (m ∷ ls) bs = omega (arith, ap (λ (z : ℕ). (m.absent + m.present) * z) (total_append ls bs))

-- ---- two lists of leaves: the sum of e i * f j over i + j = k - 1
abbrev pub conv : ℕ → (ℕ → ℕ) → (ℕ → ℕ) → ℕ
conv zero e f = 0
conv (suc k) e f = e 0 * f k + conv k (later e) f

conv_linear : (k a p : ℕ) (e d f : ℕ → ℕ) → conv k (λ (i : ℕ). a * e i + p * d i) f ≡ a * conv k e f + p * conv k d f
conv_linear zero a p e d f = omega arith
conv_linear (suc k) a p e d f = omega (arith, conv_linear k a p (later e) (later d) f)

pub conv-zero : (k : ℕ) (e f : ℕ → ℕ) → ((i : ℕ) → e i ≡ 0) → conv k e f ≡ 0
conv-zero zero e f h = refl
conv-zero (suc k) e f h = rw (h 0) (omega (arith, conv-zero k (later e) f (λ (i : ℕ). h (suc i))))

pub weight_append : (k : ℕ) (ls bs : List Leaf) → weight k (ls ++ bs) ≡ conv (suc k) (λ (i : ℕ). weight i ls) (λ (i : ℕ). weight i bs)
weight_append k [] bs = omega (arith, conv-zero k (λ (i : ℕ). 0) (λ (i : ℕ). weight i bs) (λ (i : ℕ). refl))
weight_append zero (m ∷ ls) bs = omega (arith, ap (λ (z : ℕ). m.absent * z) (weight_append zero ls bs))
weight_append (suc k) (m ∷ ls) bs =
    let both = conv_linear (suc k) m.absent m.present (λ (i : ℕ). weight (suc i) ls) (λ (i : ℕ). weight i ls) (λ (i : ℕ). weight i bs) in
    omega (arith, both, ap (λ (z : ℕ). m.absent * z) (weight_append (suc k) ls bs), ap (λ (z : ℕ). m.present * z) (weight_append k ls bs))

-- ---- `like`
pub like-same : (g h : ℕ → ℕ) (ms : List Leaf) (t : ℕ) → ((i : ℕ) → g i ≡ h i) → like g ms t ≡ like h ms t
like-same g h [] t e = e t
like-same g h (m ∷ ms) t e = cc (like-same g h ms t e, like-same g h ms (suc t) e)

like_linear : (a p : ℕ) (h : ℕ → ℕ) (ys : List Leaf) (t : ℕ) → like (λ (u : ℕ). a * h u + p * h (suc u)) ys t ≡ a * like h ys t + p * like h ys (suc t)
like_linear a p h [] t = refl
like_linear a p h (m ∷ ys) t =
    omega (arith, ap (λ (z : ℕ). m.absent * z) (like_linear a p h ys t), ap (λ (z : ℕ). m.present * z) (like_linear a p h ys (suc t)))

like_append : (g : ℕ → ℕ) (xs ys : List Leaf) (t : ℕ) → like g (xs ++ ys) t ≡ like (like g ys) xs t
like_append g [] ys t = refl
like_append g (m ∷ xs) ys t = cc (like_append g xs ys t, like_append g xs ys (suc t))

like_comm : (g : ℕ → ℕ) (xs ys : List Leaf) (t : ℕ) → like (like g ys) xs t ≡ like (like g xs) ys t
like_comm g [] ys t = refl
like_comm g (m ∷ xs) ys t = cc (like_comm g xs ys t, like_comm g xs ys (suc t), like_linear m.absent m.present (like g xs) ys t)

-- a block in the middle of its others
pub like_middle : (g : ℕ → ℕ) (before block after : List Leaf) (t : ℕ) → like (like g (before ++ after)) block t ≡ like g (before ++ (block ++ after)) t
like_middle g before block after t =
    like-same (like g (before ++ after)) (like (like g after) before) block t (like_append g before after)
    ∙ like_comm (like g after) block before t
    ∙ like-same (like (like g after) block) (like g (block ++ after)) before t (λ (i : ℕ). sym (like_append g block after i))
    ∙ sym (like_append g before (block ++ after) t)

-- as a sum over the number of those present
pub like-sum : (n : ℕ) (g : ℕ → ℕ) (ms : List Leaf) (t : ℕ) → length ms < n → like g ms t ≡ sum_below n (λ (j : ℕ). weight j ms * g (t + j))
like-sum zero g ms t h = absurd (not-suc-le-zero h)
like-sum (suc n) g [] t h = rw (add-zero t) (omega (arith, sum-zero n (λ (j : ℕ). 0) (λ (j : ℕ). g (t + suc j)) (λ (j : ℕ). refl)))
like-sum (suc n) g (m ∷ ms) t h =
    let w : ℕ → ℕ = λ (j : ℕ). weight j ms * g (t + suc j) in
    let v : ℕ → ℕ = λ (j : ℕ). weight (suc j) ms * g (t + suc j) in
    let each = sum_same n (λ (j : ℕ). weight (suc j) (m ∷ ms) * g (t + suc j)) (λ (j : ℕ). m.absent * v j + m.present * w j) (λ (j : ℕ). omega arith) in
    let moved = sum_same n (λ (j : ℕ). weight j ms * g (suc t + j)) w (λ (j : ℕ). rw (suc-add t j, add-suc t j) refl) in
    let first = ap (λ (z : ℕ). m.absent * z) (like-sum (suc n) g ms t (omega arith)) in
    let rest = ap (λ (z : ℕ). m.present * z) (like-sum n g ms (suc t) (omega arith) ∙ moved) in
    omega (arith, each, sum_linear n m.absent m.present v w, first, rest)
