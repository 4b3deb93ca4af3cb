-- The sums over presence patterns are the weights and the likelihoods.
use Rattle.std.specs.Prelude.{◌≡◌, refl, Bool, true, false, List, [], ◌∷◌, ◌++◌, map, ℕ, zero, suc, ◌+◌, ◌*◌, ◌<◌, eqb, length}
use Rattle.std.proofs.Common.{sym, ap, ◌∙◌, mul_comm, mul_assoc, zero-add, add-zero, add-suc, suc-add, not-suc-le-zero, le_of_suc-le-suc, arith}
use Rattle.std.proofs.Math.Dec.{eqb-zero-suc, eqb-suc-zero, eqb-suc-suc}
use Rattle.definition.specs.Lists.{range, filter, cons_if, patterns}
use Rattle.definition.specs.Vectors.{Message, entry}
use Rattle.claims.specs.ExactSums.{units, digit, present_count, presence, product, without, sum_over, factor_sum, grade_sum}
use Rattle.tree_error.specs.Weights.{Leaf, weight, like, like-same, sum_below, sum_same}
use Rattle.tree_error.specs.Layers.{counts, leaf_of}

abbrev Pattern : Type 0
Pattern = List Bool

-- ---- sums over lists

sum-filter : (f : Pattern → ℕ) (t : Pattern → Bool) (ps : List Pattern) → sum_over f (filter t ps) ≡ sum_over (λ (p : Pattern). f p * digit (t p)) ps
sum-filter f t [] = refl
sum-filter f t (p ∷ ps) = go (t p) (sum-filter f t ps)
  where
    S : ℕ
    S = sum_over (λ (q : Pattern). f q * digit (t q)) ps

    go : (b : Bool) → sum_over f (filter t ps) ≡ S → sum_over f (cons_if b p (filter t ps)) ≡ f p * digit b + S
    go true e = omega arith
    go false e = omega arith

sum_append : (f : Pattern → ℕ) (ps qs : List Pattern) → sum_over f (ps ++ qs) ≡ sum_over f ps + sum_over f qs
sum_append f [] qs = omega arith
sum_append f (p ∷ ps) qs = omega (arith, sum_append f ps qs)

-- of the patterns that begin with b: a multiple of a sum over the rest
sum-begun : (f g : Pattern → ℕ) (b : Bool) (a : ℕ) (ps : List Pattern) → ((p : Pattern) → f (b ∷ p) ≡ a * g p)
    → sum_over f (map (λ (p : Pattern). b ∷ p) ps) ≡ a * sum_over g ps
sum-begun f g b a [] e = omega arith
sum-begun f g b a (p ∷ ps) e = omega (arith, e p, sum-begun f g b a ps e)

-- of all patterns of one grade more, where that grade's presence is a factor
sum-grade : (n : ℕ) (f : Pattern → ℕ) (a : Bool → ℕ) (g : Bool → Pattern → ℕ) → ((b : Bool) (p : Pattern) → f (b ∷ p) ≡ a b * g b p)
    → sum_over f (patterns (suc n)) ≡ a false * sum_over (g false) (patterns n) + a true * sum_over (g true) (patterns n)
unfolding patterns
sum-grade n f a g e =
    omega (
      arith,
      sum_append f (map (λ (p : Pattern). false ∷ p) (patterns n)) (map (λ (p : Pattern). true ∷ p) (patterns n)),
      sum-begun f (g false) false (a false) (patterns n) (e false),
      sum-begun f (g true) true (a true) (patterns n) (e true),
    )

-- of a message's entries
sum-range : (g : ℕ → ℕ) (i n : ℕ) → sum_over g (range i n) ≡ sum_below n (λ (j : ℕ). g (i + j))
sum-range g i zero = refl
sum-range g i (suc n) =
    cc (ap g (add-zero i), sum-range g (suc i) n, sum_same n (λ (j : ℕ). g (suc i + j)) (λ (j : ℕ). g (i + suc j)) (λ (j : ℕ). rw (suc-add i j, add-suc i j) refl))

pub sum_entries : (n : ℕ) (g h : ℕ → ℕ) → ((i : ℕ) → g i ≡ h i) → sum_over g (range 0 n) ≡ sum_below n h
sum_entries n g h e = sum-range g 0 n ∙ sum_same n (λ (j : ℕ). g (0 + j)) h (λ (j : ℕ). ap g (zero-add j) ∙ e j)

-- ---- likelihoods of shifted counts, and of one count alone

like-shift : (d : ℕ) (F : ℕ → ℕ) (ls : List Leaf) (t : ℕ) → like (λ (u : ℕ). F (d + u)) ls t ≡ like F ls (d + t)
like-shift d F [] t = refl
like-shift d F (l ∷ ls) t = cc (like-shift d F ls t, like-shift d F ls (suc t), ap (like F ls) (add-suc d t))

like-none : (ls : List Leaf) (t : ℕ) → like (λ (u : ℕ). 0) ls t ≡ 0
like-none [] t = refl
like-none (l ∷ ls) t = rw (like-none ls t, like-none ls (suc t)) (omega arith)

next : (u : ℕ) → 1 + u ≡ suc u
next u = omega arith

-- 1 for the count k, and 0 for every other
abbrev only : ℕ → ℕ → ℕ
only k u = digit (eqb u k)

like-only : (k : ℕ) (ls : List Leaf) → like (only k) ls 0 ≡ weight k ls
like-only zero [] = refl
like-only (suc k) [] = ap digit (eqb-zero-suc k)
like-only zero (l ∷ ls) =
    let e : like (only 0) ls 1 ≡ 0 = sym (like-shift 1 (only 0) ls 0) ∙ like-same (λ (u : ℕ). only 0 (1 + u)) (λ (u : ℕ). 0) ls 0 above ∙ like-none ls 0 in
    rw (e, like-only zero ls) (omega arith)
  where
    above : (u : ℕ) → only 0 (1 + u) ≡ 0
    above u = ap (only 0) (next u) ∙ ap digit (eqb-suc-zero u)
like-only (suc k) (l ∷ ls) =
    let e : like (only (suc k)) ls 1 ≡ weight k ls = sym (like-shift 1 (only (suc k)) ls 0) ∙ like-same (λ (u : ℕ). only (suc k) (1 + u)) (only k) ls 0 less ∙ like-only k ls in
    cc (e, like-only (suc k) ls)
  where
    less : (u : ℕ) → only (suc k) (1 + u) ≡ only k u
    less u = ap (only (suc k)) (next u) ∙ ap digit (eqb-suc-suc u k)

-- ---- all patterns, and those with a grade's presence

-- a pattern's product, times F of its count
whole : (ℕ → ℕ) → List Message → Pattern → ℕ
whole F ms p = product p ms * F (present_count p)

whole_sum : (F : ℕ → ℕ) (ms : List Message) → sum_over (whole F ms) (patterns (length ms)) ≡ like F (map leaf_of ms) 0
unfolding whole patterns
whole_sum F [] = omega arith
whole_sum F (m ∷ ms) =
    let at : (d : ℕ) → sum_over (whole (λ (u : ℕ). F (d + u)) ms) (patterns (length ms)) ≡ like F (map leaf_of ms) (d + 0) =
    λ d. whole_sum (λ (u : ℕ). F (d + u)) ms ∙ like-shift d F (map leaf_of ms) 0
    in
    sum-grade (length ms) (whole F (m ∷ ms)) (λ (b : Bool). units (entry (digit b) m)) (λ (b : Bool). whole (λ (u : ℕ). F (digit b + u)) ms)
    (λ (b : Bool) (p : Pattern). mul_assoc (units (entry (digit b) m)) (product p ms) (F (digit b + present_count p)))
    ∙ cc (at 0, at 1)

-- where d more are present
whole-after : (d : ℕ) (F : ℕ → ℕ) (ms : List Message) → sum_over (whole (λ (u : ℕ). F (d + u)) ms) (patterns (length ms)) ≡ like F (map leaf_of ms) (d + 0)
whole-after d F ms = whole_sum (λ (u : ℕ). F (d + u)) ms ∙ like-shift d F (map leaf_of ms) 0

-- the same without grade i, of the patterns that have its presence t
others : (ℕ → ℕ) → List Message → ℕ → ℕ → Pattern → ℕ
others F ms i t p = product (without i p) (without i ms) * F (present_count p) * digit (eqb (presence i p) t)

others-sum : (F : ℕ → ℕ) (ms : List Message) (i t : ℕ) → i < length ms → t < 2 → sum_over (others F ms i t) (patterns (length ms)) ≡ like F (without i (map leaf_of ms)) t
unfolding others whole
others-sum F [] i t h g = absurd (not-suc-le-zero h)
others-sum F (m ∷ ms) zero t h g =
    sum-grade (length ms) (others F (m ∷ ms) 0 t) (λ (b : Bool). digit (eqb (digit b) t)) (λ (b : Bool). whole (λ (u : ℕ). F (digit b + u)) ms)
    (λ (b : Bool) (p : Pattern). mul_comm (product p ms * F (digit b + present_count p)) (digit (eqb (digit b) t)))
    ∙ cc (whole-after 0 F ms, whole-after 1 F ms) ∙ chosen t g (like F (map leaf_of ms))
  where
    chosen : (t : ℕ) → t < 2 → (x : ℕ → ℕ) → digit (eqb 0 t) * x 0 + digit (eqb 1 t) * x 1 ≡ x t
    chosen zero h x = omega arith
    chosen (suc zero) h x = omega arith
    chosen (suc (suc t)) h x = absurd (let z : ⊥ = omega arith in z)
others-sum F (m ∷ ms) (suc i) t h g =
    let ls = without i (map leaf_of ms) in
    let at : (d : ℕ) → sum_over (others (λ (u : ℕ). F (d + u)) ms i t) (patterns (length ms)) ≡ like F ls (d + t) =
    λ d. others-sum (λ (u : ℕ). F (d + u)) ms i t (le_of_suc-le-suc h) g ∙ like-shift d F ls t
    in
    sum-grade (length ms) (others F (m ∷ ms) (suc i) t) (λ (b : Bool). units (entry (digit b) m)) (λ (b : Bool). others (λ (u : ℕ). F (digit b + u)) ms i t)
    (λ (b : Bool) (p : Pattern). regroup (units (entry (digit b) m)) (product (without i p) (without i ms)) (F (digit b + present_count p)) (digit (eqb (presence i p) t)))
    ∙ cc (at 0, at 1, ap (like F ls) (zero-add t), ap (like F ls) (next t))
  where
    regroup : (a b c d : ℕ) → a * b * c * d ≡ a * (b * c * d)
    regroup a b c d = omega arith

-- ---- the claim's sums

pub factor-sum : (ms : List Message) (k : ℕ) → factor_sum ms k ≡ weight k (map leaf_of ms)
unfolding whole
factor-sum ms k =
    sum-filter (λ (p : Pattern). product p ms) (λ (p : Pattern). eqb (present_count p) k) (patterns (length ms)) ∙ whole_sum (only k) ms ∙ like-only k (map leaf_of ms)

pub grade-sum : (f : Message) (ms : List Message) (i t : ℕ) → i < length ms → t < 2 → grade_sum f ms i t ≡ like (counts f) (without i (map leaf_of ms)) t
unfolding others
grade-sum f ms i t h g =
    sum-filter (λ (p : Pattern). product (without i p) (without i ms) * units (entry (present_count p) f)) (λ (p : Pattern). eqb (presence i p) t) (patterns (length ms))
    ∙ others-sum (counts f) ms i t h g
