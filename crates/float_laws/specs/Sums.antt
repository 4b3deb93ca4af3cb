-- Sums of floats from the left, and lists whose entries lie in an interval.
use Rattle.std.specs.Prelude.{◌≡◌, refl, true, false, List, [], ◌∷◌, ℕ, zero, suc, ◌+◌, ◌*◌, ◌^◌, ◌≤◌, ◌<◌, pos, T, length, get_or, Float}
use Rattle.std.proofs.Common.{sym, ap, ◌∙◌, subst, true≢false, not-suc-le-zero, le_of_suc-le-suc, add-zero, zero-add, mul-one, zero-mul, suc-mul, add-mul, mul_comm, mul_assoc, mul_left_comm, zero-lt-suc, arith}
use Rattle.std.specs.Float.{nan, inf, fin, binary32}
use Rattle.std.specs.Float.Ieee.{up, add, div, neg, le, fits, of_int}
use Rattle.std.specs.Float.Ieee.Fits.{add-fits, neg-fits, of_int-fits}
use Rattle.std.specs.Float.Ieee.Order.{le_of_values}
use Rattle.std.specs.Float.Ieee.Exact.{HasValue}
use Rattle.std.specs.Float.Ieee.Back.{round_whole}
use Rattle.std.specs.Float.Ieee.Scale.{finite}
use Rattle.std.specs.Float.Ieee.Positive.{positive, positive-finite, den}
pub use Rattle.definition.specs.Floats.{of_nat}
pub use Rattle.definition.specs.Vectors.{sum_from}
use Rattle.float_laws.specs.Order.{plus, minus, Below, le-neg, le_trans_at, le-refl-at, finite-between, finite_number}
use Rattle.float_laws.specs.Rounded.{at-most, at_least}
use Rattle.float_laws.specs.Ops.{add_is}
use Rattle.float_laws.specs.Laws.{zeroᶠ, oneᶠ, positive_of_le, add_mono, add_grows, add_grows_r, div-at-most-one, div-at-least-zero}
use Rattle.float_laws.specs.Interval.{In}

-- ---- each entry lies in [lo, hi]
abbrev pub Each : Float → Float → List Float → Type 0
Each lo hi [] = Unit {0}
Each lo hi (x ∷ xs) = In lo hi x × Each lo hi xs

-- ---- whole numbers
whole_val : (n : ℕ) → n ≤ 2 ^ 24 → HasValue (of_nat n) false n 1
unfolding of_int
whole_val n h = round_whole binary32 false n h

parts : (x : Float) (a : ℕ) → HasValue x false a 1 → T (finite x) × (minus x ≡ 0) × (plus x ≡ a * den x)
parts nan a h = absurd h
parts (inf s) a h = absurd h
parts (fin true m e) a h = absurd (true≢false h.0)
parts (fin false m e) a h = (tt, refl, sym (mul-one (m * up e)) ∙ h.1)

pub whole-finite : (n : ℕ) → n ≤ 2 ^ 24 → T (finite (of_nat n))
whole-finite n h = (parts (of_nat n) n (whole_val n h)).0

-- ---- whole numbers, in order and added
pub whole_mono : (m n : ℕ) → m ≤ n → n ≤ 2 ^ 24 → T (le (of_nat m) (of_nat n))
whole_mono m n h k = le_of_values (of_nat m) (of_nat n) m 1 n 1 (zero-lt-suc 0) (zero-lt-suc 0) (whole_val m (omega arith)) (whole_val n k) (omega arith)

pub whole-add : (m n : ℕ) → m + n ≤ 2 ^ 24 → T (le (add binary32 (of_nat m) (of_nat n)) (of_nat (m + n)))
whole-add m n h =
    let u = of_nat m in
    let w = of_nat n in
    let v = of_nat (m + n) in
    let a = parts u m (whole_val m (omega arith)) in
    let b = parts w n (whole_val n (omega arith)) in
    let d = parts v (m + n) (whole_val (m + n) h) in
    at-most binary32 v (add binary32 u w) _ _ _ (of_int-fits binary32 (pos (m + n))) d.0 (add_is binary32 u w a.0 b.0)
    (go (plus u) (minus u) (den u) (plus w) (minus w) (den w) (plus v) (minus v) (den v) a.2 b.2 d.1 d.2)
  where
    go : (p o c p' o' c' q r d : ℕ) → p ≡ m * c → p' ≡ n * c' → r ≡ 0 → q ≡ (m + n) * d → Below (p * c' + p' * c) (o * c' + o' * c) (c * c') q r d
    go p o c p' o' c' q r d e e' z f =
        let x : r * (c * c') ≡ 0 = rw z (zero-mul (c * c')) in
        let y : q * (c * c') ≡ (p * c' + p' * c) * d = rw (f, e, e') (simp (add-mul, mul_assoc, mul_comm, mul_left_comm)) in
        omega arith

-- ---- a sum of entries, each between 0 and K
zero-sum : T (le zeroᶠ (add binary32 zeroᶠ zeroᶠ))
unfolding le add
zero-sum = tt

regroup : (m l b : ℕ) → m + suc l * b ≡ m + b + l * b
regroup m l b = let e : suc l * b ≡ l * b + b = suc-mul l b in omega arith

pub one-is : of_nat 1 ≡ oneᶠ
unfolding of_int
one-is = refl

-- the step of such a sum
pub next_in : (K m : ℕ) (a x : Float) → m + K ≤ 2 ^ 24 → In zeroᶠ (of_nat m) a → In zeroᶠ (of_nat K) x → In zeroᶠ (of_nat (m + K)) (add binary32 a x)
next_in K m a x h i e =
    let p = finite-between zeroᶠ a (of_nat m) tt (whole-finite m (omega arith)) i.low i.high in
    let q = finite-between zeroᶠ x (of_nat K) tt (whole-finite K (omega arith)) e.low e.high in
    record {
      low = le_trans_at zeroᶠ (add binary32 zeroᶠ zeroᶠ) (add binary32 a x) zero-sum (add_mono zeroᶠ a zeroᶠ x tt p tt q i.low e.low);
      high = le_trans_at (add binary32 a x) (add binary32 (of_nat m) (of_nat K)) (of_nat (m + K)) (add_mono a (of_nat m) x (of_nat K) p (whole-finite m (omega arith)) q (whole-finite K (omega arith)) i.high e.high) (whole-add m K h);
    }

pub sum_bound : (K m : ℕ) (a : Float) (xs : List Float) → m + length xs * K ≤ 2 ^ 24 → In zeroᶠ (of_nat m) a → Each zeroᶠ (of_nat K) xs → In zeroᶠ (of_nat (m + length xs * K)) (sum_from a xs)
sum_bound K m a [] h i e = subst (λ (n : ℕ). In zeroᶠ (of_nat n) a) (sym (ap (λ (z : ℕ). m + z) (zero-mul K) ∙ add-zero m)) i
sum_bound K m a (x ∷ xs) h i e =
    let g : m + suc (length xs) * K ≡ m + K + length xs * K = regroup m (length xs) K in
    subst (λ (n : ℕ). In zeroᶠ (of_nat n) (sum_from (add binary32 a x) xs)) (sym g) (sum_bound K (m + K) (add binary32 a x) xs (omega arith) (next_in K m a x (omega arith) i e.0) e.1)

zero_in : In zeroᶠ (of_nat 0) zeroᶠ
zero_in = record { low = unfold le in tt; high = unfold le of_int in tt }

-- from an empty sum
pub sum_in : (K : ℕ) (xs : List Float) → length xs * K ≤ 2 ^ 24 → Each zeroᶠ (of_nat K) xs → In zeroᶠ (of_nat (length xs * K)) (sum_from zeroᶠ xs)
sum_in K xs h e = subst (λ (n : ℕ). In zeroᶠ (of_nat n) (sum_from zeroᶠ xs)) (zero-add (length xs * K)) (sum_bound K 0 zeroᶠ xs (omega arith) zero_in e)

pub sum-finite : (K : ℕ) (xs : List Float) → length xs * K ≤ 2 ^ 24 → Each zeroᶠ (of_nat K) xs → T (finite (sum_from zeroᶠ xs))
sum-finite K xs h e = let i = sum_in K xs h e in finite-between zeroᶠ (sum_from zeroᶠ xs) (of_nat (length xs * K)) tt (whole-finite (length xs * K) h) i.low i.high

pub sum_grows : (K m : ℕ) (a : Float) (xs : List Float) → m + length xs * K ≤ 2 ^ 24 → T (fits binary32 a) → In zeroᶠ (of_nat m) a → Each zeroᶠ (of_nat K) xs → T (le a (sum_from a xs))
sum_grows K m a [] h t i e = le-refl-at a (finite_number a (finite-between zeroᶠ a (of_nat m) tt (whole-finite m (omega arith)) i.low i.high))
sum_grows K m a (x ∷ xs) h t i e =
    let g : m + suc (length xs) * K ≡ m + K + length xs * K = regroup m (length xs) K in
    let p = finite-between zeroᶠ a (of_nat m) tt (whole-finite m (omega arith)) i.low i.high in
    let q = finite-between zeroᶠ x (of_nat K) tt (whole-finite K (omega arith)) e.0.low e.0.high in
    le_trans_at a (add binary32 a x) (sum_from (add binary32 a x) xs) (add_grows a x t p q e.0.low)
    (sum_grows K (m + K) (add binary32 a x) xs (omega arith) (add-fits binary32 a x) (next_in K m a x (omega arith) i e.0) e.1)

-- the sum is at least b, where an entry is
above_from : (K m : ℕ) (a : Float) (xs : List Float) (i : ℕ) (b : Float) → m + length xs * K ≤ 2 ^ 24 → In zeroᶠ (of_nat m) a → Each zeroᶠ (of_nat K) xs → i < length xs → T (fits binary32 b) → T (finite b) → T (le b (get_or xs i nan)) → T (le b (sum_from a xs))
above_from K m a [] n b h i e l t u g = absurd (not-suc-le-zero l)
above_from K m a (x ∷ xs) zero b h i e l t u g =
    let r : m + suc (length xs) * K ≡ m + K + length xs * K = regroup m (length xs) K in
    let p = finite-between zeroᶠ a (of_nat m) tt (whole-finite m (omega arith)) i.low i.high in
    let q = finite-between zeroᶠ x (of_nat K) tt (whole-finite K (omega arith)) e.0.low e.0.high in
    le_trans_at b (add binary32 a b) (sum_from (add binary32 a x) xs) (add_grows_r a b t p u i.low)
    (le_trans_at (add binary32 a b) (add binary32 a x) (sum_from (add binary32 a x) xs) (add_mono a a b x p p u q (le-refl-at a (finite_number a p)) g)
    (sum_grows K (m + K) (add binary32 a x) xs (omega arith) (add-fits binary32 a x) (next_in K m a x (omega arith) i e.0) e.1))
above_from K m a (x ∷ xs) (suc n) b h i e l t u g =
    let r : m + suc (length xs) * K ≡ m + K + length xs * K = regroup m (length xs) K in
    above_from K (m + K) (add binary32 a x) xs n b (omega arith) (next_in K m a x (omega arith) i e.0) e.1 (le_of_suc-le-suc l) t u g

pub sum-above : (K : ℕ) (xs : List Float) (i : ℕ) (b : Float) → length xs * K ≤ 2 ^ 24 → Each zeroᶠ (of_nat K) xs → i < length xs → T (fits binary32 b) → T (finite b) → T (le b (get_or xs i nan)) → T (le b (sum_from zeroᶠ xs))
sum-above K xs i b h e l t u g = above_from K 0 zeroᶠ xs i b (omega arith) zero_in e l t u g

-- ---- the shares of a sum: what `normalize` leaves
pub share_in : (x s : Float) → T (finite x) → T (positive s) → T (le zeroᶠ x) → T (le x s) → In zeroᶠ oneᶠ (div binary32 x s)
share_in x s p q h k = record { low = div-at-least-zero x s p q h; high = div-at-most-one x s p q k }

-- each entry between 0 and K, one of them at least b, a value above zero: the sum is above zero, and the shares are between 0 and 1
pub sum-positive : (K : ℕ) (xs : List Float) (i : ℕ) (b : Float) → length xs * K ≤ 2 ^ 24 → Each zeroᶠ (of_nat K) xs → i < length xs → T (fits binary32 b) → T (positive b) → T (le b (get_or xs i nan)) → T (positive (sum_from zeroᶠ xs))
sum-positive K xs i b h e l t u g = positive_of_le b (sum_from zeroᶠ xs) u (sum-finite K xs h e) (sum-above K xs i b h e l t (positive-finite b u) g)

-- the negative of a whole number
abbrev pub minus32 : ℕ → Float
minus32 n = neg (of_nat n)

neg-parts : (x : Float) (a : ℕ) → HasValue x false a 1 → T (finite (neg x)) × (plus (neg x) ≡ 0) × (minus (neg x) ≡ a * den (neg x))
unfolding neg
neg-parts nan a h = absurd h
neg-parts (inf s) a h = absurd h
neg-parts (fin true m e) a h = absurd (true≢false h.0)
neg-parts (fin false m e) a h = (tt, refl, sym (mul-one (m * up e)) ∙ h.1)

pub minus-finite : (n : ℕ) → n ≤ 2 ^ 24 → T (finite (minus32 n))
minus-finite n h = (neg-parts (of_nat n) n (whole_val n h)).0

pub minus_mono : (m n : ℕ) → m ≤ n → n ≤ 2 ^ 24 → T (le (minus32 n) (minus32 m))
minus_mono m n h k = le-neg (of_nat m) (of_nat n) (whole_mono m n h k)

pub minus-add : (m n : ℕ) → m + n ≤ 2 ^ 24 → T (le (minus32 (m + n)) (add binary32 (minus32 m) (minus32 n)))
minus-add m n h =
    let u = minus32 m in
    let w = minus32 n in
    let v = minus32 (m + n) in
    let a = neg-parts (of_nat m) m (whole_val m (omega arith)) in
    let b = neg-parts (of_nat n) n (whole_val n (omega arith)) in
    let d = neg-parts (of_nat (m + n)) (m + n) (whole_val (m + n) h) in
    at_least binary32 v (add binary32 u w) _ _ _ (neg-fits binary32 (of_nat (m + n)) (of_int-fits binary32 (pos (m + n)))) d.0 (add_is binary32 u w a.0 b.0)
    (go (plus u) (minus u) (den u) (plus w) (minus w) (den w) (plus v) (minus v) (den v) a.2 b.2 d.1 d.2)
  where
    go : (p o c p' o' c' q r d : ℕ) → o ≡ m * c → o' ≡ n * c' → q ≡ 0 → r ≡ (m + n) * d → Below q r d (p * c' + p' * c) (o * c' + o' * c) (c * c')
    go p o c p' o' c' q r d e e' z f =
        let x : q * (c * c') ≡ 0 = rw z (zero-mul (c * c')) in
        let y : r * (c * c') ≡ (o * c' + o' * c) * d = rw (f, e, e') (simp (add-mul, mul_assoc, mul_comm, mul_left_comm)) in
        omega arith

-- ---- a sum of terms of either sign: k terms, each from -b to b, come to between -(k * b) and k * b
pub signed_step : (m n : ℕ) (a x : Float) → m + n ≤ 2 ^ 24 → In (minus32 m) (of_nat m) a → In (minus32 n) (of_nat n) x → In (minus32 (m + n)) (of_nat (m + n)) (add binary32 a x)
signed_step m n a x h i j =
    let ml = minus-finite m (omega arith) in
    let mh = whole-finite m (omega arith) in
    let nl = minus-finite n (omega arith) in
    let nh = whole-finite n (omega arith) in
    let p = finite-between (minus32 m) a (of_nat m) ml mh i.low i.high in
    let q = finite-between (minus32 n) x (of_nat n) nl nh j.low j.high in
    record {
      low = le_trans_at (minus32 (m + n)) (add binary32 (minus32 m) (minus32 n)) (add binary32 a x) (minus-add m n h) (add_mono (minus32 m) a (minus32 n) x ml p nl q i.low j.low);
      high = le_trans_at (add binary32 a x) (add binary32 (of_nat m) (of_nat n)) (of_nat (m + n)) (add_mono a (of_nat m) x (of_nat n) p mh q nh i.high j.high) (whole-add m n h);
    }
