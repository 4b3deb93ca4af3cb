-- Rows of products added to a range: the steps of the loops that make a convolution.
use Rattle.std.specs.Prelude.{◌≡◌, refl, List, [], ◌∷◌, ◌++◌, ℕ, zero, suc, ◌+◌, ◌-◌, ◌≤◌, ◌<◌, length, get_or, take, drop, set, replicate, Float}
use Rattle.std.proofs.Common.{sym, ap, ◌∙◌, append-nil, add-zero, zero-add, suc-add, add-suc, not-suc-le-zero, le_of_suc-le-suc, add-one, arith, length-drop, take_all}
use Rattle.std.proofs.Math.Seq.{drop-nil}
use Rattle.std.specs.Float.{nan}
use Rattle.definition.specs.Floats.{◌⊕◌, ◌⊗◌, zeroᶠ}
use Rattle.definition.specs.ConvolutionTree.{convolve}
use Rattle.graph_laws.specs.Convolution.{add_products, add_all_products, convolve_accumulates}

-- ---- one row, an entry further

pub row-none : (x : Float) (b l : List Float) → l ≡ add_products 0 x (take 0 b) l
unfolding add_products
row-none x b l = refl

row_step :
    (j : ℕ) (x : Float) (b l : List Float) → j < length b → j < length l →
    set (add_products 0 x (take j b) l) j (get_or (add_products 0 x (take j b) l) j nan ⊕ x ⊗ get_or b j nan) ≡ add_products 0 x (take (suc j) b) l
unfolding add_products
row_step j x [] l h g = absurd (not-suc-le-zero h)
row_step j x (y ∷ b) [] h g = absurd (not-suc-le-zero g)
row_step zero x (y ∷ b) (r ∷ l) h g = refl
row_step (suc j) x (y ∷ b) (r ∷ l) h g = ap {B = List Float} (λ t. r ⊕ x ⊗ y ∷ t) (row_step j x b l (le_of_suc-le-suc h) (le_of_suc-le-suc g))

pub row-turn :
    (j : ℕ) (x : Float) (b l w : List Float) → j < length b → length b ≤ length l → w ≡ add_products 0 x (take j b) l →
    set w j (get_or w j nan ⊕ x ⊗ get_or b j nan) ≡ add_products 0 x (take (j + 1) b) l
row-turn j x b l w h g e =
    ap (λ (v : List Float). set v j (get_or v j nan ⊕ x ⊗ get_or b j nan)) e
    ∙ row_step j x b l h (omega arith)
    ∙ ap (λ (k : ℕ). add_products 0 x (take k b) l) (sym (add-one j))

-- ---- the rows, one more

-- a row from entry i on is one at the start of what lies from there on
pub row_from : (i : ℕ) (x : Float) (b l : List Float) → i ≤ length l → take i l ++ add_products 0 x b (drop i l) ≡ add_products i x b l
unfolding add_products
row_from zero x b l h = refl
row_from (suc i) x b [] h = absurd (not-suc-le-zero h)
row_from (suc i) x b (r ∷ l) h = ap {B = List Float} (λ t. r ∷ t) (row_from i x b l (le_of_suc-le-suc h))

rows-from : (i n : ℕ) (a b l : List Float) → n < length a → add_products (i + n) (get_or a n nan) b (add_all_products i (take n a) b l) ≡ add_all_products i (take (suc n) a) b l
unfolding add_all_products
rows-from i n [] b l h = absurd (not-suc-le-zero h)
rows-from i zero (x ∷ a) b l h = ap (λ (k : ℕ). add_products k x b l) (add-zero i)
rows-from i (suc n) (x ∷ a) b l h =
    ap (λ (k : ℕ). add_products k (get_or a n nan) b (add_all_products (suc i) (take n a) b (add_products i x b l))) (add-suc i n ∙ sym (suc-add i n))
    ∙ rows-from (suc i) n a b (add_products i x b l) (le_of_suc-le-suc h)

pub rows_none : (a b l : List Float) → l ≡ add_all_products 0 (take 0 a) b l
unfolding add_all_products
rows_none a b l = refl

-- The lent part is all from entry i on, so that behind it nothing is left.
pub rows-turn :
    (i k : ℕ) (a b l w v : List Float) → i < length a → i ≤ length w → length w ≤ i + k → w ≡ add_all_products 0 (take i a) b l → v ≡ add_products 0 (get_or a i nan) b (take k (drop i w)) →
    take i w ++ (v ++ drop k (drop i w)) ≡ add_all_products 0 (take (i + 1) a) b l
rows-turn i k a b l w v h g m e r =
    let n : length (drop i w) ≤ k = omega (arith, length-drop i w) in
    ap (λ (u : List Float). take i w ++ (u ++ drop k (drop i w))) (r ∙ ap (add_products 0 (get_or a i nan) b) (take_all k (drop i w) n))
    ∙ ap (λ (u : List Float). take i w ++ (add_products 0 (get_or a i nan) b (drop i w) ++ u)) (nothing k (drop i w) n)
    ∙ ap (λ (u : List Float). take i w ++ u) (append-nil (add_products 0 (get_or a i nan) b (drop i w)))
    ∙ row_from i (get_or a i nan) b w g
    ∙ ap (λ (u : List Float). add_products i (get_or a i nan) b u) e
    ∙ ap (λ (z : ℕ). add_products z (get_or a i nan) b (add_all_products 0 (take i a) b l)) (sym (zero-add i))
    ∙ rows-from 0 i a b l h
    ∙ ap (λ (z : ℕ). add_all_products 0 (take z a) b l) (sym (add-one i))
  where
    nothing : (k : ℕ) (s : List Float) → length s ≤ k → drop k s ≡ []
    nothing k [] h = drop-nil k
    nothing zero (x ∷ s) h = absurd (not-suc-le-zero h)
    nothing (suc k) (x ∷ s) h = nothing k s (le_of_suc-le-suc h)

pub rows_all : (i : ℕ) (a b l w : List Float) → l ≡ replicate (length a + length b - 1) zeroᶠ → length a ≤ i → w ≡ add_all_products 0 (take i a) b l → w ≡ convolve a b
rows_all i a b l w z h e =
    e
    ∙ ap (λ (t : List Float). add_all_products 0 t b l) (take_all i a h)
    ∙ ap (add_all_products 0 a b) z
    ∙ sym (convolve_accumulates a b)
