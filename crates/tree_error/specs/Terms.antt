-- Sums of products of two vectors whose entries are off exact values: the entries of a convolution, and those of a correlation.
use Rattle.std.specs.Prelude.{◌≡◌, refl, Bool, true, false, not, List, [], ◌∷◌, map, ℕ, zero, suc, ◌+◌, ◌*◌, ◌^◌, ◌≤◌, ◌<◌, T, leb, length, get_or, take, Float}
use Rattle.std.proofs.Common.{ap, zero-le, le_of_eq, mul_assoc, mul-zero, zero-mul, zero-add, add-zero, suc-add, add-suc, mul-le-mul_left, mul-le-mul_right, not-suc-le-zero, le_of_suc-le-suc, add-le-add, le-add_left, arith, leb→le, lit≤}
use Rattle.std.proofs.Math.Nat.{mul-mul-mul_comm, add_left_comm}
use Rattle.std.proofs.Math.Dec.{nleb→lt}
use Rattle.std.specs.Float.{nan}
use Rattle.float_laws.specs.Error.{val32, exact_sum}
use Rattle.float_laws.specs.Totals.{AtMost, AllAtMost, at_most-at}
use Rattle.float_laws.specs.Products.{mul_near, exact_cons, zip_mul}
use Rattle.definition.specs.Floats.{◌⊗◌}
use Rattle.definition.specs.Lists.{range}
use Rattle.graph_laws.specs.Convolution.{terms, terms-none, terms-end, terms-more, terms-same}
use Rattle.message_bounds.specs.Zeros.{Zeros, zero_times}
use Rattle.tree_error.specs.Off.{Off, off-more, off-none, off_rounded, off-scale, off_times, off_trans, off_join}
use Rattle.tree_error.specs.Weights.{later, conv, conv-zero, sum_below, sum-zero}

-- each entry, in units and times Q, is off its exact value times P
abbrev pub Offs : ℕ → ℕ → ℕ → ℕ → (ℕ → ℕ) → List Float → Type 0
Offs k A P Q g [] = Unit {0}
Offs k A P Q g (x ∷ l) = Off k (A * Q) (val32 x * Q) (g 0 * P) × Offs k A P Q (later g) l

pub offs_at : (k A P Q : ℕ) (g : ℕ → ℕ) (l : List Float) (j : ℕ) → Offs k A P Q g l → j < length l → Off k (A * Q) (val32 (get_or l j nan) * Q) (g j * P)
offs_at k A P Q g [] j o h = absurd (not-suc-le-zero h)
offs_at k A P Q g (x ∷ l) zero o h = o.0
offs_at k A P Q g (x ∷ l) (suc j) o h = offs_at k A P Q (later g) l j o.1 (le_of_suc-le-suc h)

-- of a list that is counted out
module _ (k A P Q : ℕ) where
  offs_from : (c : ℕ → ℕ) (g : ℕ → Float) (i n : ℕ) → ((j : ℕ) → j < n → Off k (A * Q) (val32 (g (i + j)) * Q) (c j * P)) → Offs k A P Q c (map g (range i n))
  offs_from c g i zero f = tt
  offs_from c g i (suc n) f = (
    rw (add-zero i) at (f 0 (omega arith)),
    offs_from (later c) g (suc i) n (λ (j : ℕ) (h : j < n). rw (suc-add i j, ← add-suc i j) (f (suc j) (omega arith))),
  )

  pub offs_count : (c : ℕ → ℕ) (g : ℕ → Float) (n : ℕ) → ((j : ℕ) → j < n → Off k (A * Q) (val32 (g j) * Q) (c j * P)) → Offs k A P Q c (map g (range 0 n))
  offs_count c g n f = offs_from c g 0 n (λ (j : ℕ) (h : j < n). rw (zero-add j) (f j h))

-- ---- the sum of a vector's first entries
first_more : (i : ℕ) (b : List Float) → i < length b → exact_sum 0 (take (suc i) b) ≡ val32 (get_or b i nan) + exact_sum 0 (take i b)
first_more i [] h = absurd (not-suc-le-zero h)
first_more zero (y ∷ b) h = exact_cons y []
first_more (suc i) (y ∷ b) h =
    rw (exact_cons y (take (suc i) b), exact_cons y (take i b), first_more i b (le_of_suc-le-suc h))
    (add_left_comm (val32 y) (val32 (get_or b i nan)) (exact_sum 0 (take i b)))

first_rises : (i : ℕ) (b : List Float) → exact_sum 0 (take i b) ≤ exact_sum 0 (take (suc i) b)
first_rises zero b = zero-le
first_rises (suc i) [] = zero-le
first_rises (suc i) (y ∷ b) = rw (exact_cons y (take i b), exact_cons y (take (suc i) b)) (add-le-add (le_of_eq refl) (first_rises i b))

pub first-most : (i : ℕ) (b : List Float) → exact_sum 0 (take i b) ≤ exact_sum 0 b
first-most zero b = zero-le
first-most (suc i) [] = zero-le
first-most (suc i) (y ∷ b) = rw (exact_cons y (take i b), exact_cons y b) (add-le-add (le_of_eq refl) (first-most i b))

-- ---- sums of products
-- what additive errors and roundings make of n products of entries that come to X and Y, with U for 2 ^ 149
abbrev pub slacks : ℕ → ℕ → ℕ → ℕ → ℕ → ℕ → ℕ
slacks A B n X Y U = 3 * (A * (Y + n * B) + B * (X + n * A)) + n * U

slacks_rise : (A B n m X W Y Z U : ℕ) → n ≤ m → X ≤ W → Y ≤ Z → slacks A B n X Y U ≤ slacks A B m W Z U
slacks_rise A B n m X W Y Z U h x y = omega (arith, mul-le-mul_left A y, mul-le-mul_left B x, mul-le-mul_right (A * B) h, mul-le-mul_right U h)

slacks-more : (A B n X Y x y U : ℕ) → slacks A B 1 x y U + slacks A B n X Y U ≡ slacks A B (suc n) (x + X) (y + Y) U
slacks-more A B n X Y x y U = omega arith

product-off : (k j A B P Q R S X Y G e f U : ℕ) → k + j + 1 ≤ 4096 → Off k (A * Q) (X * Q) (e * P) → Off j (B * S) (Y * S) (f * R) → Off 1 U (G * U) (X * Y)
    → Off (k + j + 3) (slacks A B 1 X Y U * (Q * S)) (G * (U * (Q * S))) (e * f * (P * R))
product-off k j A B P Q R S X Y G e f U h o q r =
    let s = rw (mul-mul-mul_comm X Q Y S, mul-mul-mul_comm e P f R) at (off_times o q (omega arith) (omega arith)) in
    let t = rw (mul_assoc G U (Q * S)) at (off-scale (Q * S) r) in
    off_trans s t h (lit≤ tt) (omega arith) (omega arith)

-- the products ts, of n entries that come to X with n that come to Y, against their exact sum C
abbrev pub ProductsOff : ℕ → ℕ → ℕ → ℕ → ℕ → ℕ → ℕ → ℕ → ℕ → ℕ → ℕ → List Float → ℕ → Type 0
ProductsOff k j A B P Q R S n X Y ts C = Off (k + j + 3) (slacks A B n X Y (2 ^ 149) * (Q * S)) (exact_sum 0 ts * (2 ^ 149 * (Q * S))) (C * (P * R))

module _ (k j A B P Q R S : ℕ) (small : k + j + 1 ≤ 4096) where
  abbrev Products : ℕ → ℕ → ℕ → List Float → ℕ → Type 0
  Products = ProductsOff k j A B P Q R S

  products_none : (n X Y : ℕ) (ts : List Float) (C : ℕ) → exact_sum 0 ts ≡ 0 → C ≡ 0 → Products n X Y ts C
  products_none n X Y ts C p q = off-none (rw p (zero-mul (2 ^ 149 * (Q * S)))) (rw q (zero-mul (P * R)))

  products_rise : (n m X W Y Z : ℕ) (ts : List Float) (C : ℕ) → n ≤ m → X ≤ W → Y ≤ Z → Products n X Y ts C → Products m W Z ts C
  products_rise n m X W Y Z ts C h x y =
      off-more (k + j + 3) (k + j + 3) _ _ _ _ (le_of_eq refl) (mul-le-mul_right (Q * S) (slacks_rise A B n m X W Y Z (2 ^ 149) h x y))

  products_more : (n X Y : ℕ) (x y : Float) (ts : List Float) (e f C : ℕ) → AtMost 1 x → AtMost 1 y
      → Off k (A * Q) (val32 x * Q) (e * P) → Off j (B * S) (val32 y * S) (f * R) → Products n X Y ts C
      → Products (suc n) (val32 x + X) (val32 y + Y) (x ⊗ y ∷ ts) (e * f + C)
  products_more n X Y x y ts e f C a b o q r =
      let t = mul_near 1 x y (lit≤ tt) a b in
      let g = off_rounded (val32 (x ⊗ y) * 2 ^ 149) (val32 x * val32 y) (2 ^ 149) t.over t.under in
      let p = product-off k j A B P Q R S (val32 x) (val32 y) (val32 (x ⊗ y)) e f (2 ^ 149) small o q g in
      rw (← slacks-more A B n X Y (val32 x) (val32 y) (2 ^ 149), exact_cons (x ⊗ y) ts)
      (off_join (k + j + 3) _ _ _ _ _ _ (P * R) (Q * S) (2 ^ 149 * (Q * S)) p r)

  -- an entry of a convolution: beyond their ends both vectors are empty
  module _ (b : List Float) (f : ℕ → ℕ) (nb : AllAtMost 1 b) (ob : Offs j B R S f b) (beyond : (i : ℕ) → length b ≤ i → f i ≡ 0) where
    abbrev Entry : ℕ → List Float → (ℕ → ℕ) → Type 0
    Entry i a e = Products (length a) (exact_sum 0 a) (exact_sum 0 (take i b)) (terms i a b) (conv i e f)

    pub terms-off : (i : ℕ) (a : List Float) (e : ℕ → ℕ) → AllAtMost 1 a → Offs k A P Q e a → ((l : ℕ) → length a ≤ l → e l ≡ 0) → Entry i a e
    terms-off zero a e n o z = products_none _ _ _ (terms 0 a b) 0 (ap (exact_sum 0) (terms-none a b)) refl
    terms-off (suc i) [] e n o z =
        products_none _ _ _ (terms (suc i) [] b) (conv (suc i) e f) (ap (exact_sum 0) (terms-end (suc i) b)) (conv-zero (suc i) e f (λ (l : ℕ). z l zero-le))
    terms-off (suc i) (x ∷ a) e n o z =
        let rest = terms-off i a (later e) n.1 o.1 (λ (l : ℕ) (h : length a ≤ l). z (suc l) (omega arith)) in
        go (leb (length b) i) (leb→le (length b) i) (nleb→lt (length b) i) rest
      where
        go : (t : Bool) → (T t → length b ≤ i) → (T (not t) → i < length b) → Entry i a (later e) → Entry (suc i) (x ∷ a) e
        go true h _ rest =
            rw (terms-same i x a b (h tt), beyond i (h tt), mul-zero (e 0), zero-add (conv i (later e) f), exact_cons x a)
            (products_rise _ _ _ _ _ _ (terms i a b) _ (omega arith) (le-add_left (exact_sum 0 a) (val32 x)) (first_rises i b) rest)
        go false _ h rest =
            rw (terms-more i x a b (h tt), first_more i b (h tt), exact_cons x a)
            (products_more _ _ _ x (get_or b i nan) (terms i a b) (e 0) (f i) _ n.0 (at_most-at 1 b i nb (h tt)) o.0 (offs_at j B R S f b i ob (h tt)) rest)

-- ---- an entry of a correlation: the second vector is off by no more than parts, in its first m entries, and beyond them the first vector is empty
nothing_times : (b l : List Float) → AllAtMost 1 l → Zeros 0 b → exact_sum 0 (zip_mul b l) ≡ 0
nothing_times [] l n z = refl
nothing_times (x ∷ b) [] n z = refl
nothing_times (x ∷ b) (y ∷ l) n z = rw (z.0, zero_times y n.0) (nothing_times b l n.1 z.1)

pub dot-off : (k d A P Q R S : ℕ) (m : ℕ) (b : List Float) (e : ℕ → ℕ) (l : List Float) (g : ℕ → ℕ) → k + d + 1 ≤ 4096 → AllAtMost 1 b → AllAtMost 1 l
    → Zeros m b → ((i : ℕ) → m ≤ i → e i ≡ 0) → m ≤ length l → Offs k A P Q e b → Offs d 0 R S g (take m l)
    → ProductsOff k d A 0 P Q R S (length b) (exact_sum 0 b) (exact_sum 0 l) (zip_mul b l) (sum_below (length b) (λ (i : ℕ). e i * g i))
dot-off k d A P Q R S m [] e l g s nb nl z v h o q = products_none k d A 0 P Q R S s 0 0 (exact_sum 0 l) [] 0 refl refl
dot-off k d A P Q R S zero (x ∷ b) e l g s nb nl z v h o q =
    products_none k d A 0 P Q R S s _ _ _ (zip_mul (x ∷ b) l) (sum_below (suc (length b)) (λ (i : ℕ). e i * g i))
    (nothing_times (x ∷ b) l nl z) (sum-zero (suc (length b)) e g (λ (i : ℕ). v i zero-le))
dot-off k d A P Q R S (suc m) (x ∷ b) e [] g s nb nl z v h o q = absurd (not-suc-le-zero h)
dot-off k d A P Q R S (suc m) (x ∷ b) e (y ∷ l) g s nb nl z v h o q =
    let beyond : (i : ℕ) → m ≤ i → e (suc i) ≡ 0 = λ (i : ℕ) (h : m ≤ i). v (suc i) (omega arith) in
    let rest = dot-off k d A P Q R S m b (later e) l (later g) s nb.1 nl.1 z beyond (le_of_suc-le-suc h) o.1 q.1 in
    rw (exact_cons x b, exact_cons y l) (products_more k d A 0 P Q R S s (length b) _ _ x y (zip_mul b l) (e 0) (g 0) _ nb.0 nl.0 o.0 q.0 rest)
