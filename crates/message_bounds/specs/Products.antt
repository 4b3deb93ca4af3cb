-- The rows of a convolution: how large its entries are, and that each is at least every product in its sum.
use Rattle.std.specs.Prelude.{◌≡◌, Bool, true, false, not, List, [], ◌∷◌, ℕ, zero, suc, ◌+◌, ◌-◌, ◌^◌, ◌≤◌, ◌<◌, T, leb, length, get_or, replicate, Float}
use Rattle.std.proofs.Common.{sym, subst, zero-le, not-suc-le-zero, le_of_suc-le-suc, arith, leb→le, lit≤}
use Rattle.std.proofs.Math.Dec.{nleb→lt}
use Rattle.std.proofs.lemmas.List.{length-replicate}
use Rattle.std.specs.Float.{nan, binary32}
use Rattle.std.specs.Float.Ieee.{le, fits, of_int}
use Rattle.std.specs.Float.Ieee.Fits.{mul-fits}
use Rattle.float_laws.specs.Order.{le_trans_at, le-refl-at, finite_number}
use Rattle.float_laws.specs.Laws.{add_grows, add_grows_r}
use Rattle.float_laws.specs.Totals.{AtMost, AllAtMost, at_most-finite, at_most-at, clear-low}
use Rattle.definition.specs.Floats.{◌⊕◌, ◌⊗◌, zeroᶠ}
use Rattle.definition.specs.ConvolutionTree.{convolve}
use Rattle.graph_laws.specs.Convolution.{add_products, add_all_products, length-add_products, length-add_all_products, convolve_accumulates, terms, terms-none, terms-end, terms-more, terms-same}
use Rattle.message_bounds.specs.Normalized.{at_most-more, at_most-add, at_most_times}

-- ---- sizes: a row adds at most 1 to each entry
more-all : (K : ℕ) (l : List Float) → suc K ≤ 2 ^ 24 → AllAtMost K l → AllAtMost (K + 1) l
more-all K [] h n = tt
more-all K (x ∷ l) h n = (at_most-more K (K + 1) x (omega arith) (omega arith) n.0, more-all K l h n.1)

at_most-row : (K i : ℕ) (x : Float) (b l : List Float) → suc K ≤ 2 ^ 24 → AtMost 1 x → AllAtMost 1 b → AllAtMost K l → AllAtMost (K + 1) (add_products i x b l)
unfolding add_products
at_most-row K (suc i) x b [] h n m k = tt
at_most-row K (suc i) x b (r ∷ l) h n m k = (at_most-more K (K + 1) r (omega arith) (omega arith) k.0, at_most-row K i x b l h n m k.1)
at_most-row K zero x [] l h n m k = more-all K l h k
at_most-row K zero x (y ∷ b) [] h n m k = tt
at_most-row K zero x (y ∷ b) (r ∷ l) h n m k = (at_most-add K 1 r (x ⊗ y) (omega arith) k.0 (at_most_times x y n m.0), at_most-row K zero x b l h n m.1 k.1)

at_most-rows : (K i : ℕ) (a b l : List Float) → K + length a ≤ 2 ^ 24 → AllAtMost 1 a → AllAtMost 1 b → AllAtMost K l → AllAtMost (K + length a) (add_all_products i a b l)
unfolding add_all_products
at_most-rows K i [] b l h n m k = subst (λ (z : ℕ). AllAtMost z l) (let e : K ≡ K + 0 = omega arith in e) k
at_most-rows K i (x ∷ a) b l h n m k =
    subst (λ (z : ℕ). AllAtMost z (add_all_products (suc i) a b (add_products i x b l))) (let e : K + 1 + length a ≡ K + suc (length a) = omega arith in e)
    (at_most-rows (K + 1) (suc i) a b (add_products i x b l) (omega arith) n.1 m (at_most-row K i x b l (omega arith) n.0 m k))

zeros-at_most : (n : ℕ) → AllAtMost 0 (replicate n zeroᶠ)
zeros-at_most zero = tt
zeros-at_most (suc n) = (record { held = unfold fits in tt; clear_sign = tt; small = unfold le of_int in tt }, zeros-at_most n)

pub convolve-at_most : (a b : List Float) → length a ≤ 2 ^ 24 → AllAtMost 1 a → AllAtMost 1 b → AllAtMost (length a) (convolve a b)
convolve-at_most a b h n m =
    subst (AllAtMost (length a)) (sym (convolve_accumulates a b))
    (subst (λ (z : ℕ). AllAtMost z (add_all_products 0 a b (replicate (length a + length b - 1) zeroᶠ))) (let e : 0 + length a ≡ length a = omega arith in e)
    (at_most-rows 0 0 a b (replicate (length a + length b - 1) zeroᶠ) (omega arith) n m (zeros-at_most (length a + length b - 1))))

-- ---- the products of an entry are between 0 and 1, and no more than there are entries
pub terms-at_most : (j : ℕ) (a b : List Float) → AllAtMost 1 a → AllAtMost 1 b → AllAtMost 1 (terms j a b) × (length (terms j a b) ≤ length a)
terms-at_most zero a b n m = rw terms-none (tt, zero-le)
terms-at_most (suc j) [] b n m = rw terms-end (tt, zero-le)
terms-at_most (suc j) (x ∷ a) b n m = go (terms-at_most j a b n.1 m) (leb (length b) j) (leb→le (length b) j) (nleb→lt (length b) j)
  where
    go : AllAtMost 1 (terms j a b) × (length (terms j a b) ≤ length a) → (t : Bool) → (T t → length b ≤ j) → (T (not t) → j < length b)
        → AllAtMost 1 (terms (suc j) (x ∷ a) b) × (length (terms (suc j) (x ∷ a) b) ≤ suc (length a))
    go r true h _ = rw (terms-same j x a b (h tt)) (r.0, omega (arith, r.1))
    go r false _ h = rw (terms-more j x a b (h tt)) ((at_most_times x (get_or b j nan) n.0 (at_most-at 1 b j m (h tt)), r.0), omega (arith, r.1))

-- ---- an entry only grows
number_at : (K : ℕ) (l : List Float) (k : ℕ) → K ≤ 2 ^ 24 → AllAtMost K l → k < length l → T (le (get_or l k nan) (get_or l k nan))
number_at K l k h f o = le-refl-at (get_or l k nan) (finite_number (get_or l k nan) (at_most-finite K (get_or l k nan) h (at_most-at K l k f o)))

grows_row : (K i : ℕ) (x : Float) (b l : List Float) (k : ℕ) → K ≤ 2 ^ 24 → AtMost 1 x → AllAtMost 1 b → AllAtMost K l → k < length l → T (le (get_or l k nan) (get_or (add_products i x b l) k nan))
unfolding add_products
grows_row K (suc i) x b [] k h n m f o = absurd (not-suc-le-zero o)
grows_row K (suc i) x b (r ∷ l) zero h n m f o = le-refl-at r (finite_number r (at_most-finite K r h f.0))
grows_row K (suc i) x b (r ∷ l) (suc k) h n m f o = grows_row K i x b l k h n m f.1 (le_of_suc-le-suc o)
grows_row K zero x [] l k h n m f o = number_at K l k h f o
grows_row K zero x (y ∷ b) [] k h n m f o = absurd (not-suc-le-zero o)
grows_row K zero x (y ∷ b) (r ∷ l) zero h n m f o =
    let t = at_most_times x y n m.0 in
    add_grows r (x ⊗ y) f.0.held (at_most-finite K r h f.0) (at_most-finite 1 (x ⊗ y) (lit≤ tt) t) (clear-low (x ⊗ y) t.clear_sign)
grows_row K zero x (y ∷ b) (r ∷ l) (suc k) h n m f o = grows_row K zero x b l k h n m.1 f.1 (le_of_suc-le-suc o)

grows_rows : (K i : ℕ) (a b l : List Float) (k : ℕ) → K + length a ≤ 2 ^ 24 → AllAtMost 1 a → AllAtMost 1 b → AllAtMost K l → k < length l → T (le (get_or l k nan) (get_or (add_all_products i a b l) k nan))
unfolding add_all_products
grows_rows K i [] b l k h n m f o = number_at K l k (omega arith) f o
grows_rows K i (x ∷ a) b l k h n m f o =
    le_trans_at (get_or l k nan) (get_or (add_products i x b l) k nan) (get_or (add_all_products (suc i) a b (add_products i x b l)) k nan)
    (grows_row K i x b l k (omega arith) n.0 m f o)
    (grows_rows (K + 1) (suc i) a b (add_products i x b l) k (omega arith) n.1 m (at_most-row K i x b l (omega arith) n.0 m f) (omega (arith, length-add_products i x b l)))

-- ---- and each product ends up in one
abbrev pub Reached : Float → List Float → Type 0
Reached p l = (k : ℕ) × (k < length l) × T (le p (get_or l k nan))

deeper : (p r : Float) (l : List Float) → Reached p l → Reached p (r ∷ l)
deeper p r l q = (suc q.0, omega (arith, q.1), q.2)

reach_row : (K i : ℕ) (x : Float) (b l : List Float) (j : ℕ) → K ≤ 2 ^ 24 → AtMost 1 x → AllAtMost 1 b → AllAtMost K l → j < length b → i + length b ≤ length l → Reached (x ⊗ get_or b j nan) (add_products i x b l)
unfolding add_products
reach_row K (suc i) x b [] j h n m f o g = absurd (let z : ⊥ = omega arith in z)
reach_row K (suc i) x b (r ∷ l) j h n m f o g = deeper (x ⊗ get_or b j nan) r (add_products i x b l) (reach_row K i x b l j h n m f.1 o (omega arith))
reach_row K zero x [] l j h n m f o g = absurd (not-suc-le-zero o)
reach_row K zero x (y ∷ b) [] j h n m f o g = absurd (let z : ⊥ = omega arith in z)
reach_row K zero x (y ∷ b) (r ∷ l) zero h n m f o g =
    let t = at_most_times x y n m.0 in
    (0, omega arith, add_grows_r r (x ⊗ y) (mul-fits binary32 x y) (at_most-finite K r h f.0) (at_most-finite 1 (x ⊗ y) (lit≤ tt) t) (clear-low r f.0.clear_sign))
reach_row K zero x (y ∷ b) (r ∷ l) (suc j) h n m f o g = deeper (x ⊗ get_or b j nan) (r ⊕ x ⊗ y) (add_products zero x b l) (reach_row K zero x b l j h n m.1 f.1 (le_of_suc-le-suc o) (omega arith))

reach_rows : (K i : ℕ) (a b l : List Float) (u j : ℕ) → K + length a ≤ 2 ^ 24 → AllAtMost 1 a → AllAtMost 1 b → AllAtMost K l → u < length a → j < length b → i + length a + length b ≤ suc (length l) → Reached (get_or a u nan ⊗ get_or b j nan) (add_all_products i a b l)
unfolding add_all_products
reach_rows K i [] b l u j h n m f p o g = absurd (not-suc-le-zero p)
reach_rows K i (x ∷ a) b l zero j h n m f p o g =
    let q = reach_row K i x b l j (omega arith) n.0 m f o (omega arith) in
    let e = length-add_products i x b l in
    let w = add_products i x b l in
    let d = length-add_all_products (suc i) a b w in (
      q.0,
      omega (arith, q.1),
      le_trans_at (x ⊗ get_or b j nan) (get_or w q.0 nan) (get_or (add_all_products (suc i) a b w) q.0 nan) q.2
          (grows_rows (K + 1) (suc i) a b w q.0 (omega arith) n.1 m (at_most-row K i x b l (omega arith) n.0 m f) q.1),
    )
reach_rows K i (x ∷ a) b l (suc u) j h n m f p o g =
    reach_rows (K + 1) (suc i) a b (add_products i x b l) u j (omega arith) n.1 m (at_most-row K i x b l (omega arith) n.0 m f) (le_of_suc-le-suc p) o (omega (arith, length-add_products i x b l))

pub convolve_reaches : (a b : List Float) (u j : ℕ) → length a ≤ 2 ^ 24 → AllAtMost 1 a → AllAtMost 1 b → u < length a → j < length b → Reached (get_or a u nan ⊗ get_or b j nan) (convolve a b)
convolve_reaches a b u j h n m p o =
    subst (Reached (get_or a u nan ⊗ get_or b j nan)) (sym (convolve_accumulates a b))
    (reach_rows 0 0 a b (replicate (length a + length b - 1) zeroᶠ) u j (omega arith) n m (zeros-at_most (length a + length b - 1)) p o (omega (arith, length-replicate (length a + length b - 1) zeroᶠ)))
