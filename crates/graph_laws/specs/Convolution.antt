-- The convolution as a loop makes it, row by row, is the definition's, entry by entry; and how many levels a tree has.
use Rattle.std.specs.Prelude.{ℕ, zero, suc, ◌+◌, ◌-◌, ◌^◌, ◌≤◌, ◌<◌, ◌≡◌, refl, Bool, true, false, not, List, [], ◌∷◌, map, reverse, T, leb, Float, length, get_or, take, drop, replicate}
use Rattle.std.proofs.Common.{add-zero, zero-add, suc-add, add-suc, not-suc-le-zero, le_of_suc-le-suc, arith, sym, ap, ◌∙◌, leb→le, pow_pos, take_all, take-suc, ext_get_or}
use Rattle.std.proofs.lemmas.List.{reverse-append, length-map, length-replicate, get_or-replicate}
use Rattle.std.proofs.Math.Dec.{nleb→lt}
use Rattle.std.specs.Float.{nan}
use Rattle.std.specs.Float.Ieee.Digits.{size-lt, size-le}
use Rattle.std.proofs.Math.Seq.{drop-nil}
use Rattle.graph_laws.specs.Lists.{length_count}
use Rattle.definition.specs.Floats.{◌⊕◌, ◌⊗◌, zeroᶠ}
use Rattle.definition.specs.Lists.{range}
use Rattle.definition.specs.Vectors.{sum_from, sum_of, zip_with}
use Rattle.definition.specs.ConvolutionTree.{convolve, log_length}

-- ---- the loop

-- x * b added to the entries of l, from entry i on
unfoldable pub add_products : ℕ → Float → List Float → List Float → List Float
add_products (suc i) x b [] = []
add_products (suc i) x b (r ∷ l) = r ∷ add_products i x b l
add_products zero x [] l = l
add_products zero x (y ∷ b) [] = []
add_products zero x (y ∷ b) (r ∷ l) = r ⊕ x ⊗ y ∷ add_products zero x b l

-- the rows of a times b added to l, the first of them from entry i on and each one entry further on than the row before
unfoldable pub add_all_products : ℕ → List Float → List Float → List Float → List Float
add_all_products i [] b l = l
add_all_products i (x ∷ a) b l = add_all_products (suc i) a b (add_products i x b l)

-- ---- lengths

pub length-add_products : (i : ℕ) (x : Float) (b l : List Float) → length (add_products i x b l) ≡ length l
unfolding add_products
length-add_products (suc i) x b [] = refl
length-add_products (suc i) x b (r ∷ l) = ap suc (length-add_products i x b l)
length-add_products zero x [] l = refl
length-add_products zero x (y ∷ b) [] = refl
length-add_products zero x (y ∷ b) (r ∷ l) = ap suc (length-add_products zero x b l)

pub length-add_all_products : (i : ℕ) (a b l : List Float) → length (add_all_products i a b l) ≡ length l
unfolding add_all_products
length-add_all_products i [] b l = refl
length-add_all_products i (x ∷ a) b l = length-add_all_products (suc i) a b (add_products i x b l) ∙ length-add_products i x b l

pub length-convolve : (a b : List Float) → length (convolve a b) ≡ length a + length b - 1
unfolding convolve
length-convolve a b = length-map (range 0 (length a + length b - 1)) _ ∙ length_count 0 (length a + length b - 1)

-- ---- an entry after one row: before the row's first entry, in the row, after its last

row_before : (i : ℕ) (x : Float) (b l : List Float) (k : ℕ) → k < i → get_or (add_products i x b l) k nan ≡ get_or l k nan
unfolding add_products
row_before zero x b l k h = absurd (not-suc-le-zero h)
row_before (suc i) x b [] k h = refl
row_before (suc i) x b (r ∷ l) zero h = refl
row_before (suc i) x b (r ∷ l) (suc k) h = row_before i x b l k (le_of_suc-le-suc h)

row_inside : (i j : ℕ) (x : Float) (b l : List Float) (k : ℕ) → i + j ≡ k → j < length b → k < length l → get_or (add_products i x b l) k nan ≡ get_or l k nan ⊕ x ⊗ get_or b j nan
unfolding add_products
row_inside i j x b [] k e h g = absurd (not-suc-le-zero g)
row_inside (suc i) j x b (r ∷ l) zero e h g = absurd (let z : ⊥ = omega arith in z)
row_inside (suc i) j x b (r ∷ l) (suc k) e h g = row_inside i j x b l k (omega arith) h (le_of_suc-le-suc g)
row_inside zero j x [] (r ∷ l) k e h g = absurd (not-suc-le-zero h)
row_inside zero zero x (y ∷ b) (r ∷ l) zero e h g = refl
row_inside zero zero x (y ∷ b) (r ∷ l) (suc k) e h g = absurd (let z : ⊥ = omega arith in z)
row_inside zero (suc j) x (y ∷ b) (r ∷ l) zero e h g = absurd (let z : ⊥ = omega arith in z)
row_inside zero (suc j) x (y ∷ b) (r ∷ l) (suc k) e h g = row_inside zero j x b l k (omega arith) (le_of_suc-le-suc h) (le_of_suc-le-suc g)

row-after : (i : ℕ) (x : Float) (b l : List Float) (k : ℕ) → i + length b ≤ k → get_or (add_products i x b l) k nan ≡ get_or l k nan
unfolding add_products
row-after (suc i) x b [] k h = refl
row-after (suc i) x b (r ∷ l) zero h = absurd (let z : ⊥ = omega arith in z)
row-after (suc i) x b (r ∷ l) (suc k) h = row-after i x b l k (omega arith)
row-after zero x [] l k h = refl
row-after zero x (y ∷ b) [] k h = refl
row-after zero x (y ∷ b) (r ∷ l) zero h = absurd (let z : ⊥ = omega arith in z)
row-after zero x (y ∷ b) (r ∷ l) (suc k) h = row-after zero x b l k (omega arith)

-- ---- the terms of an entry

-- those that the rows of a add to an entry, where the first row begins j - 1 entries before it, or, for j = 0, behind it
unfoldable pub terms : ℕ → List Float → List Float → List Float
terms j a b = zip_with ◌⊗◌ (drop (j - length b) a) (reverse (take j b))

pub terms-none : (a b : List Float) → terms 0 a b ≡ []
unfolding terms
terms-none [] b = ap (λ (n : ℕ). zip_with ◌⊗◌ (drop n []) []) (let e : 0 - length b ≡ 0 = omega arith in e)
terms-none (x ∷ a) b = ap (λ (n : ℕ). zip_with ◌⊗◌ (drop n (x ∷ a)) []) (let e : 0 - length b ≡ 0 = omega arith in e)

pub terms-end : (j : ℕ) (b : List Float) → terms j [] b ≡ []
unfolding terms
terms-end j b = ap (λ (l : List Float). zip_with ◌⊗◌ l (reverse (take j b))) (drop-nil (j - length b))

-- the row adds a term
pub terms-more : (j : ℕ) (x : Float) (a b : List Float) → j < length b → terms (suc j) (x ∷ a) b ≡ x ⊗ get_or b j nan ∷ terms j a b
unfolding terms
terms-more j x a b h =
    ap (λ (n : ℕ). zip_with ◌⊗◌ (drop n (x ∷ a)) (reverse (take (suc j) b))) (let e : suc j - length b ≡ 0 = omega arith in e)
    ∙ ap (λ (l : List Float). zip_with ◌⊗◌ (x ∷ a) (reverse l)) (take-suc b j nan h)
    ∙ ap (λ (l : List Float). zip_with ◌⊗◌ (x ∷ a) l) (reverse-append (take j b) (get_or b j nan ∷ []))
    ∙ ap (λ (n : ℕ). x ⊗ get_or b j nan ∷ zip_with ◌⊗◌ (drop n a) (reverse (take j b))) (let e : 0 ≡ j - length b = omega arith in e)

-- it ends before the entry
pub terms-same : (j : ℕ) (x : Float) (a b : List Float) → length b ≤ j → terms (suc j) (x ∷ a) b ≡ terms j a b
unfolding terms
terms-same j x a b h =
    ap (λ (n : ℕ). zip_with ◌⊗◌ (drop n (x ∷ a)) (reverse (take (suc j) b))) (let e : suc j - length b ≡ suc (j - length b) = omega arith in e)
    ∙ ap (λ (l : List Float). zip_with ◌⊗◌ (drop (j - length b) a) (reverse l)) (take_all (suc j) b (omega arith) ∙ sym (take_all j b h))

-- ---- an entry after all rows

rows_before : (i : ℕ) (a b l : List Float) (k : ℕ) → k < i → get_or (add_all_products i a b l) k nan ≡ get_or l k nan
unfolding add_all_products
rows_before i [] b l k h = refl
rows_before i (x ∷ a) b l k h = rows_before (suc i) a b (add_products i x b l) k (omega arith) ∙ row_before i x b l k h

rows_at : (j i : ℕ) (a b l : List Float) (k : ℕ) → i + j ≡ suc k → k < length l → get_or (add_all_products i a b l) k nan ≡ sum_from (get_or l k nan) (terms j a b)
unfolding add_all_products
rows_at zero i a b l k e h = rows_before i a b l k (omega arith) ∙ ap (sum_from (get_or l k nan)) (sym (terms-none a b))
rows_at (suc j) i [] b l k e h = ap (sum_from (get_or l k nan)) (sym (terms-end (suc j) b))
rows_at (suc j) i (x ∷ a) b l k e h =
    rows_at j (suc i) a b (add_products i x b l) k (omega arith) (omega (arith, length-add_products i x b l)) ∙ go (leb (length b) j) (leb→le (length b) j) (nleb→lt (length b) j)
  where
    go : (c : Bool) → (T c → length b ≤ j) → (T (not c) → j < length b) → sum_from (get_or (add_products i x b l) k nan) (terms j a b) ≡ sum_from (get_or l k nan) (terms (suc j) (x ∷ a) b)
    go true g _ = ap (λ (y : Float). sum_from y (terms j a b)) (row-after i x b l k (omega (arith, g tt))) ∙ ap (sum_from (get_or l k nan)) (sym (terms-same j x a b (g tt)))
    go false _ g =
        ap (λ (y : Float). sum_from y (terms j a b)) (row_inside i j x b l k (omega arith) (g tt) h)
        ∙ ap (sum_from (get_or l k nan)) (sym (terms-more j x a b (g tt)))

-- ---- the whole

pub convolve-is : (a b : List Float) → convolve a b ≡ map (λ (k : ℕ). sum_of (terms (suc k) a b)) (range 0 (length a + length b - 1))
unfolding convolve terms
convolve-is a b = refl

counted-at : (g : ℕ → Float) (i n k : ℕ) → k < n → get_or (map g (range i n)) k nan ≡ g (i + k)
counted-at g i zero k h = absurd (not-suc-le-zero h)
counted-at g i (suc n) zero h = ap g (sym (add-zero i))
counted-at g i (suc n) (suc k) h = counted-at g (suc i) n k (le_of_suc-le-suc h) ∙ ap g (suc-add i k ∙ sym (add-suc i k))

-- For all lists, empty ones too: the definition's convolution is what the loop leaves that starts from zeros.
pub convolve_accumulates : (a b : List Float) → convolve a b ≡ add_all_products 0 a b (replicate (length a + length b - 1) zeroᶠ)
unfolding convolve sum_of terms
convolve_accumulates a b = ext_get_or nan (convolve a b) made (length-convolve a b ∙ sym long) each
  where
    n : ℕ
    n = length a + length b - 1

    made : List Float
    made = add_all_products 0 a b (replicate n zeroᶠ)

    long : length made ≡ n
    long = length-add_all_products 0 a b (replicate n zeroᶠ) ∙ length-replicate n zeroᶠ

    each : (k : ℕ) → k < length (convolve a b) → get_or (convolve a b) k nan ≡ get_or made k nan
    each k h =
        let g : k < n = omega (arith, length-convolve a b) in
        counted-at (λ (i : ℕ). sum_of (terms (suc i) a b)) 0 n k g
        ∙ ap (λ (i : ℕ). sum_of (terms (suc i) a b)) (zero-add k)
        ∙ ap (λ (y : Float). sum_from y (terms (suc k) a b)) (sym (get_or-replicate n k zeroᶠ nan g))
        ∙ sym (rows_at (suc k) 0 a b (replicate n zeroᶠ) k (zero-add (suc k)) (omega (arith, length-replicate n zeroᶠ)))

-- ---- the levels of a tree: `levels n` is the least p with n ≤ 2 ^ p

pub log_length-least : (n : ℕ) → (n ≤ 2 ^ log_length n) × ((p : ℕ) → n ≤ 2 ^ p → log_length n ≤ p)
unfolding log_length
log_length-least n = (omega (arith, size-lt (n - 1)), (λ (p : ℕ) (h : n ≤ 2 ^ p). size-le (n - 1) p (omega (arith, pow_pos p))))
