-- Sums of products of two vectors of different lengths, from above and from below.
use Rattle.std.specs.Prelude.{◌≡◌, refl, List, [], ◌∷◌, ℕ, zero, suc, ◌+◌, ◌*◌, ◌^◌, ◌≤◌, T, length, take, drop, Float}
use Rattle.std.proofs.Common.{sym, ap, ◌∙◌, subst, le_trans, le_of_eq, arith, lit≤, length-take, length-drop, length-take-le}
use Rattle.std.specs.Float.Ieee.{le, fits, of_int}
use Rattle.float_laws.specs.Laws.{zeroᶠ}
use Rattle.float_laws.specs.Sums.{sum_from, sum_grows}
use Rattle.float_laws.specs.Error.{val32, exact_sum}
use Rattle.float_laws.specs.Totals.{AtMost, AllAtMost, at_most_in, at_most-finite, at_most_each}
use Rattle.float_laws.specs.Products.{zip_mul, zip_at_most, AllOver, at_most-drop, at_most-take, le→units}
use Rattle.float_laws.specs.Tight.{dot-over, dot_under}
use Rattle.definition.specs.Floats.{◌⊕◌, ◌⊗◌}
use Rattle.definition.specs.Vectors.{zip_with, sum_of}
use Rattle.message_bounds.specs.Normalized.{at_most-more, at_most-add, sum_of-is}
use Rattle.message_bounds.specs.Zeros.{Zeros, exact_live}

-- ---- the definition's products as float_laws has them
zip_with-is : (b l : List Float) → zip_with ◌⊗◌ b l ≡ zip_mul b l
zip_with-is [] l = refl
zip_with-is (x ∷ b) [] = refl
zip_with-is (x ∷ b) (y ∷ l) = ap (λ (t : List Float). x ⊗ y ∷ t) (zip_with-is b l)

abbrev pub dot : List Float → List Float → Float
dot b l = sum_from zeroᶠ (zip_mul b l)

pub dot-is : (b l : List Float) → sum_of (zip_with ◌⊗◌ b l) ≡ dot b l
dot-is b l = sum_of-is (zip_with ◌⊗◌ b l) ∙ ap (sum_from zeroᶠ) (zip_with-is b l)

-- ---- a sum of nonnegative and bounded values
zero-at_most : AtMost 0 zeroᶠ
zero-at_most = record { held = unfold fits in tt; clear_sign = tt; small = unfold le of_int in tt }

sum-at_most-from : (K : ℕ) (a : Float) (xs : List Float) → K + length xs ≤ 2 ^ 24 → AtMost K a → AllAtMost 1 xs → AtMost (K + length xs) (sum_from a xs)
sum-at_most-from K a [] h n m = subst (λ (z : ℕ). AtMost z a) (let e : K ≡ K + 0 = omega arith in e) n
sum-at_most-from K a (x ∷ xs) h n m =
    subst (λ (z : ℕ). AtMost z (sum_from (a ⊕ x) xs)) (let e : K + 1 + length xs ≡ K + suc (length xs) = omega arith in e)
    (sum-at_most-from (K + 1) (a ⊕ x) xs (omega arith) (at_most-add K 1 a x (omega arith) n m.0) m.1)

sum-at_most : (K : ℕ) (xs : List Float) → length xs ≤ K → K ≤ 2 ^ 24 → AllAtMost 1 xs → AtMost K (sum_from zeroᶠ xs)
sum-at_most K xs h k m = at_most-more (0 + length xs) K (sum_from zeroᶠ xs) (omega arith) k (sum-at_most-from 0 zeroᶠ xs (omega arith) zero-at_most m)

pub zip_short : (b l : List Float) → length (zip_mul b l) ≤ length b
zip_short [] l = lit≤ tt
zip_short (x ∷ b) [] = omega arith
zip_short (x ∷ b) (y ∷ l) = let h = zip_short b l in omega arith

pub dot-at_most : (n : ℕ) (b l : List Float) → length b ≡ n → n ≤ 2 ^ 24 → AllAtMost 1 b → AllAtMost 1 l → AtMost n (dot b l)
dot-at_most n b l e h p q = sum-at_most n (zip_mul b l) (omega (arith, zip_short b l)) h (zip_at_most 1 b l (lit≤ tt) p q)

-- ---- from above: cut to one length
zip_none : (b : List Float) → zip_mul b [] ≡ []
zip_none [] = refl
zip_none (x ∷ b) = refl

zip_cut : (b l : List Float) → zip_mul b l ≡ zip_mul (take (length l) b) (take (length b) l)
zip_cut [] l = sym (zip_none (take (length l) []))
zip_cut (x ∷ b) [] = refl
zip_cut (x ∷ b) (y ∷ l) = ap (λ (t : List Float). x ⊗ y ∷ t) (zip_cut b l)

exact_grows : (A : ℕ) (l : List Float) → A ≤ exact_sum A l
exact_grows A [] = le_of_eq refl
exact_grows A (x ∷ l) = le_trans (more A (val32 x)) (exact_grows (A + val32 x) l)
  where
    more : (a b : ℕ) → a ≤ a + b
    more a b = omega arith

exact-take : (A k : ℕ) (l : List Float) → exact_sum A (take k l) ≤ exact_sum A l
exact-take A zero l = exact_grows A l
exact-take A (suc k) [] = le_of_eq refl
exact-take A (suc k) (x ∷ l) = exact-take (A + val32 x) k l

pub dot-most : (b l : List Float) → length b ≤ 1024 → AllAtMost 1 b → AllAtMost 1 l → 64 * exact_sum 0 b ≤ 65 * 2 ^ 149 → 8 * val32 (dot b l) ≤ 9 * 2 ^ 149
dot-most b l h p q t =
    let x = take (length l) b in
    let y = take (length b) l in
    let e = length-take (length l) b in
    let d = length-take (length b) l in
    let s : length x ≤ 1024 = omega arith in
    rw (zip_cut b l)
    (dot_under 1 x y (omega arith) (omega arith) (lit≤ tt) (omega arith) (at_most-take 1 (length l) b p) (at_most-take 1 (length b) l q)
    (scaled (exact_sum 0 x) (exact_sum 0 b) (65 * 2 ^ 149) (exact-take 0 (length l) b) t))
  where
    scaled : (a b u : ℕ) → a ≤ b → 64 * b ≤ u → 64 * a ≤ u
    scaled a b u h g = omega arith

-- ---- from below: the first m products are at least so much, and the rest only adds
sum_split : (m : ℕ) (a : Float) (b l : List Float) → sum_from a (zip_mul b l) ≡ sum_from (sum_from a (zip_mul (take m b) (take m l))) (zip_mul (drop m b) (drop m l))
sum_split zero a b l = refl
sum_split (suc m) a [] l = refl
sum_split (suc m) a (x ∷ b) [] = ap (sum_from a) (sym (zip_none (drop m b)))
sum_split (suc m) a (x ∷ b) (y ∷ l) = sum_split m (a ⊕ x ⊗ y) b l

pub dot-least : (m B : ℕ) (b l : List Float) → length b ≤ 1024 → m ≤ length b → m ≤ length l → AllAtMost 1 b → AllAtMost 1 l → Zeros m b
    → 63 * 2 ^ 149 ≤ 64 * exact_sum 0 b → AllOver B (take m l) → 64 * m ≤ B → 7 * B ≤ 8 * val32 (dot b l)
dot-least m B b l h g k p q z t o u =
    let x = take m b in
    let y = take m l in
    let e : length x ≡ m = length-take-le m b g in
    let d : length y ≡ m = length-take-le m l k in
    let xn = at_most-take 1 m b p in
    let yn = at_most-take 1 m l q in
    let low = dot-over 1 B x y (omega arith) (omega arith) (lit≤ tt) (e ∙ sym d) xn yn o (omega arith) (rw exact_live t) in
    let s = dot-at_most m x y e (omega arith) xn yn in
    let r = zip_mul (drop m b) (drop m l) in
    let c = zip_short (drop m b) (drop m l) in
    let f = length-drop m b in
    let n = zip_at_most 1 (drop m b) (drop m l) (lit≤ tt) (at_most-drop 1 m b p) (at_most-drop 1 m l q) in
    let up = sum_grows 1 m (dot x y) r (omega arith) s.held (at_most_in m (dot x y) s) (at_most_each 1 r n) in
    let w = dot-at_most (length b) b l refl (omega arith) p q in
    let v = subst (λ (z : Float). T (le (dot x y) z)) (sym (sum_split m zeroᶠ b l)) up in
    chain B (val32 (dot x y)) (val32 (dot b l)) low
    (le→units (dot x y) (dot b l) s.held w.held s.clear_sign w.clear_sign (at_most-finite m (dot x y) (omega arith) s)
    (at_most-finite (length b) (dot b l) (omega arith) w) v)
  where
    chain : (B a b : ℕ) → 7 * B ≤ 8 * a → a ≤ b → 7 * B ≤ 8 * b
    chain B a b h k = omega arith
