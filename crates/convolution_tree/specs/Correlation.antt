-- The sums of the products of two vectors' overlap, one shifted against the other: what a likelihood is before it is normalised.
use Rattle.std.specs.Prelude.{◌≡◌, refl, List, [], ◌∷◌, map, ℕ, zero, suc, ◌+◌, ◌-◌, ◌≤◌, ◌<◌, min, length, get_or, take, drop, replicate, Float}
use Rattle.std.proofs.Common.{sym, ap, ◌∙◌, add-zero, zero-add, suc-add, add-suc, not-suc-le-zero, le_of_suc-le-suc, add-one, arith, length-drop, length-take, take_all, ext_get_or, get_or-drop, get_or-take}
use Rattle.std.proofs.Math.Logic.{by_cases}
use Rattle.std.proofs.Math.Decide.{dec_lt}
use Rattle.std.proofs.lemmas.List.{length-map}
use Rattle.std.specs.Float.{nan}
use Rattle.definition.specs.Floats.{◌⊕◌, ◌⊗◌, zeroᶠ}
use Rattle.definition.specs.Lists.{range}
use Rattle.definition.specs.Vectors.{sum_from, sum_of, zip_with, normalize}
use Rattle.definition.specs.ConvolutionTree.{message_up}
use Rattle.graph_laws.specs.Convolution.{add_products, length-add_products}

unfoldable pub correlation : ℕ → List Float → List Float → List Float
correlation n b l = map (λ (k : ℕ). sum_of (zip_with ◌⊗◌ b (drop k l))) (range 0 n)

-- `message_up` normalises it
pub message_up-is : (n : ℕ) (b l : List Float) → normalize (correlation n b l) ≡ message_up n b l
unfolding correlation message_up
message_up-is n b l = refl

-- ---- its entries

length-range : (i n : ℕ) → length (range i n) ≡ n
length-range i zero = refl
length-range i (suc n) = ap suc (length-range (suc i) n)

pub length-correlation : (n : ℕ) (b l : List Float) → length (correlation n b l) ≡ n
unfolding correlation
length-correlation n b l = length-map (range 0 n) _ ∙ length-range 0 n

range_at : (g : ℕ → Float) (i n k : ℕ) → k < n → get_or (map g (range i n)) k nan ≡ g (i + k)
range_at g i zero k h = absurd (not-suc-le-zero h)
range_at g i (suc n) zero h = ap g (sym (add-zero i))
range_at g i (suc n) (suc k) h = range_at g (suc i) n k (le_of_suc-le-suc h) ∙ ap g (suc-add i k ∙ sym (add-suc i k))

at : (n : ℕ) (b l : List Float) (k : ℕ) → k < n → get_or (correlation n b l) k nan ≡ sum_from zeroᶠ (zip_with ◌⊗◌ b (drop k l))
unfolding correlation sum_of
at n b l k h = range_at (λ (k : ℕ). sum_of (zip_with ◌⊗◌ b (drop k l))) 0 n k h ∙ ap (λ (i : ℕ). sum_from zeroᶠ (zip_with ◌⊗◌ b (drop i l))) (zero-add k)

-- no row yet: zeros
pub correlation-none : (n : ℕ) (b l o : List Float) → o ≡ replicate n zeroᶠ → o ≡ correlation n (take 0 b) l
unfolding correlation sum_of
correlation-none n b l o e = e ∙ sym (zeros 0 n)
  where
    zeros : (i n : ℕ) → map (λ (k : ℕ). sum_from zeroᶠ (zip_with ◌⊗◌ [] (drop k l))) (range i n) ≡ replicate n zeroᶠ
    zeros i zero = refl
    zeros i (suc n) = ap {B = List Float} (λ t. zeroᶠ ∷ t) (zeros (suc i) n)

-- ---- one row more

-- an entry of the row, and one behind its end
row_inside : (x : Float) (b o : List Float) (k : ℕ) → k < length b → k < length o → get_or (add_products 0 x b o) k nan ≡ get_or o k nan ⊕ x ⊗ get_or b k nan
unfolding add_products
row_inside x [] o k h g = absurd (not-suc-le-zero h)
row_inside x (y ∷ b) [] k h g = absurd (not-suc-le-zero g)
row_inside x (y ∷ b) (r ∷ o) zero h g = refl
row_inside x (y ∷ b) (r ∷ o) (suc k) h g = row_inside x b o k (le_of_suc-le-suc h) (le_of_suc-le-suc g)

row-after : (x : Float) (b o : List Float) (k : ℕ) → length b ≤ k → get_or (add_products 0 x b o) k nan ≡ get_or o k nan
unfolding add_products
row-after x [] o k h = refl
row-after x (y ∷ b) [] k h = refl
row-after x (y ∷ b) (r ∷ o) zero h = absurd (not-suc-le-zero h)
row-after x (y ∷ b) (r ∷ o) (suc k) h = row-after x b o k (le_of_suc-le-suc h)

-- the sum has a term more, where both lists go on; else it is the same
sum_more : (a : Float) (b l : List Float) (j : ℕ) → j < length b → j < length l → sum_from a (zip_with ◌⊗◌ (take (suc j) b) l) ≡ sum_from a (zip_with ◌⊗◌ (take j b) l) ⊕ get_or b j nan ⊗ get_or l j nan
sum_more a [] l j h g = absurd (not-suc-le-zero h)
sum_more a (x ∷ b) [] j h g = absurd (not-suc-le-zero g)
sum_more a (x ∷ b) (y ∷ l) zero h g = refl
sum_more a (x ∷ b) (y ∷ l) (suc j) h g = sum_more (a ⊕ x ⊗ y) b l j (le_of_suc-le-suc h) (le_of_suc-le-suc g)

sum_same : (a : Float) (b l : List Float) (j : ℕ) → length l ≤ j → sum_from a (zip_with ◌⊗◌ (take (suc j) b) l) ≡ sum_from a (zip_with ◌⊗◌ (take j b) l)
sum_same a [] l j h = ap (λ (t : List Float). sum_from a (zip_with ◌⊗◌ t l)) (take-nil (suc j) ∙ sym (take-nil j))
  where
    take-nil : (n : ℕ) → take {A = Float} n [] ≡ []
    take-nil n = take_all n [] (omega arith)
sum_same a (x ∷ b) [] zero h = refl
sum_same a (x ∷ b) [] (suc j) h = refl
sum_same a (x ∷ b) (y ∷ l) zero h = absurd (not-suc-le-zero h)
sum_same a (x ∷ b) (y ∷ l) (suc j) h = sum_same (a ⊕ x ⊗ y) b l j (le_of_suc-le-suc h)

pub correlation-turn :
    (n j r : ℕ) (b l w v : List Float) → j < length b → length b ≤ length l → r ≡ min n (length l - j) → w ≡ correlation n (take j b) l →
    v ≡ add_products 0 (get_or b j nan) (take r (drop j l)) w → v ≡ correlation n (take (j + 1) b) l
correlation-turn n j r b l w v h g e f q =
    let x = get_or b j nan in
    let s = take r (drop j l) in
    let c = correlation n (take j b) l in
    let d = correlation n (take (suc j) b) l in
    let lc : length c ≡ n = length-correlation n (take j b) l in
    let ls : length s ≡ r = length-take r (drop j l) ∙ rest (length l) j n r (length (drop j l)) (length-drop j l) e in
    let la : length (add_products 0 x s c) ≡ n = length-add_products 0 x s c ∙ lc in
    q
    ∙ ap (add_products 0 x s) f
    ∙ ext_get_or nan (add_products 0 x s c) d (la ∙ sym (length-correlation n (take (suc j) b) l))
    (λ k i.
    let hk : k < n = omega arith in
    let ld : length (drop k l) ≡ length l - k = length-drop k l in
    by_cases (dec_lt (j + k) (length l))
    (λ (u : j + k < length l).
    let kr : k < r = under (length l) j n r k e u hk in
    row_inside x s c k (omega arith) (omega arith)
    ∙ ap (λ (y : Float). y ⊕ x ⊗ get_or s k nan) (at n (take j b) l k hk)
    ∙ ap (λ (y : Float). sum_from zeroᶠ (zip_with ◌⊗◌ (take j b) (drop k l)) ⊕ x ⊗ y) (get_or-take r (drop j l) k nan kr ∙ get_or-drop j l k nan ∙ ap (λ (z : ℕ). get_or l z nan) (swap j k) ∙ sym (get_or-drop k l j nan))
    ∙ sym (sum_more zeroᶠ b (drop k l) j h (omega arith))
    ∙ sym (at n (take (suc j) b) l k hk))
    (λ u.
    row-after x s c k (over (length l) j n r k (length s) ls e u)
    ∙ at n (take j b) l k hk
    ∙ sym (sum_same zeroᶠ b (drop k l) j (omega arith))
    ∙ sym (at n (take (suc j) b) l k hk)))
    ∙ ap (λ (z : ℕ). correlation n (take z b) l) (sym (add-one j))
  where
    rest : (m j n r d : ℕ) → d ≡ m - j → r ≡ min n (m - j) → min r d ≡ r
    rest m j n r d e f = omega arith

    under : (m j n r k : ℕ) → r ≡ min n (m - j) → j + k < m → k < n → k < r
    under m j n r k e h g = omega arith

    over : (m j n r k s : ℕ) → s ≡ r → r ≡ min n (m - j) → (j + k < m → ⊥) → s ≤ k
    over m j n r k s a e h = omega arith

    swap : (a b : ℕ) → a + b ≡ b + a
    swap a b = omega arith
