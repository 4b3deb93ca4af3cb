-- A rule of a table, proved at all of its entries by one test that antt computes, one entry after the other.
use Rattle.std.specs.Prelude.{◌≡◌, ◌⊎◌, Bool, true, false, not, cond, List, [], ◌∷◌, ℕ, zero, suc, ◌+◌, ◌≤◌, ◌<◌, T, leb, length, get_or}
use Rattle.std.proofs.Common.{◌∙◌, subst, sym, ap, inl, inr, add-zero, zero-add, add-suc, suc-add, le_of_suc-le-suc, not-suc-le-zero, eq-or-lt_of_le, leb→le}

abbrev pub both : Bool → Bool → Bool
both true b = b
both false b = false

both_left : (a b : Bool) → T (both a b) → T a
both_left true b t = tt
both_left false b t = t

both_right : (a b : Bool) → T (both a b) → T b
both_right true b t = t
both_right false b t = absurd t

-- the test f passes at each entry of the list and its place, counted from i
abbrev pub every : (ℕ → ℕ → Bool) → ℕ → List ℕ → Bool
every f i [] = true
every f i (x ∷ xs) = both (f i x) (every f (suc i) xs)

from : (f : ℕ → ℕ → Bool) (xs : List ℕ) (i : ℕ) → T (every f i xs) → (k : ℕ) → k < length xs → T (f (i + k) (get_or xs k 0))
from f [] i t k h = absurd (not-suc-le-zero h)
from f (x ∷ xs) i t zero h = subst (λ (m : ℕ). T (f m x)) (sym (add-zero i)) (both_left (f i x) (every f (suc i) xs) t)
from f (x ∷ xs) i t (suc k) h =
    subst (λ (m : ℕ). T (f m (get_or xs k 0))) (suc-add i k ∙ sym (add-suc i k))
    (from f xs (suc i) (both_right (f i x) (every f (suc i) xs) t) k (le_of_suc-le-suc h))

pub at : (f : ℕ → ℕ → Bool) (xs : List ℕ) → T (every f 0 xs) → (k : ℕ) → k < length xs → T (f k (get_or xs k 0))
at f xs t k h = subst (λ (m : ℕ). T (f m (get_or xs k 0))) (zero-add k) (from f xs 0 t k h)

-- ---- a test at each number below n
abbrev pub upto : (ℕ → Bool) → ℕ → Bool
upto f zero = true
upto f (suc n) = both (f n) (upto f n)

same_or_below : (k n : ℕ) → k < suc n → (k ≡ n) ⊎ (k < n)
same_or_below k n h = eq-or-lt_of_le (le_of_suc-le-suc h)

pub upto-at : (f : ℕ → Bool) (n : ℕ) → T (upto f n) → (k : ℕ) → k < n → T (f k)
upto-at f zero t k h = absurd (not-suc-le-zero h)
upto-at f (suc n) t k h = elim (same_or_below k n h) [ inl e ↦ subst (λ (m : ℕ). T (f m)) (sym e) (both_left (f n) (upto f n) t) | inr l ↦ upto-at f n (both_right (f n) (upto f n) t) k l ]

-- f is at most g at each number below n
pub upto_le : (f g : ℕ → ℕ) (n : ℕ) → T (upto (λ (k : ℕ). leb (f k) (g k)) n) → (k : ℕ) → k < n → f k ≤ g k
upto_le f g n t k h = leb→le (f k) (g k) (upto-at (λ (i : ℕ). leb (f i) (g i)) n t k h)

-- ---- `if b { x } else { y }`, by what the test says
pub chose : {X : Type 0} (b : Bool) (x y : X) → b ≡ true → x ≡ cond b x y
chose b x y e = ap (λ (c : Bool). cond c x y) (sym e)

pub left : {X : Type 0} (b : Bool) (x y : X) → b ≡ false → y ≡ cond b x y
left b x y e = ap (λ (c : Bool). cond c x y) (sym e)

pub is_true : (b : Bool) → b ≡ true → T b
is_true b e = subst T (sym e) tt

pub is_false : (b : Bool) → b ≡ false → T (not b)
is_false b e = subst (λ (c : Bool). T (not c)) (sym e) tt
