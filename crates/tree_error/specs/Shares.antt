-- Sums and shares of values that are off exact ones, and the total of the shares.
use Rattle.std.specs.Prelude.{◌≡◌, refl, List, [], ◌∷◌, map, ℕ, zero, suc, ◌+◌, ◌*◌, ◌^◌, ◌≤◌, ◌<◌, T, length, take, Float}
use Rattle.std.proofs.Common.{le_trans, le_of_eq, mul_assoc, mul-le-mul_left, mul-le-mul_right, le_of_mul-le-mul_right, mul-pos, arith, lit≤, pow_pos, take_all}
use Rattle.std.proofs.lemmas.List.{length-map}
use Rattle.std.proofs.Math.Seq.{take-length}
use Rattle.std.specs.Float.{binary32}
use Rattle.std.specs.Float.Ieee.{div, fits}
use Rattle.std.specs.Float.Ieee.Scale.{finite}
use Rattle.std.specs.Float.Ieee.Positive.{positive}
use Rattle.float_laws.specs.Laws.{zeroᶠ}
use Rattle.float_laws.specs.Sums.{sum_from}
use Rattle.float_laws.specs.Error.{val32, exact_sum, Near}
use Rattle.float_laws.specs.Totals.{AtMost, AllAtMost, at_most-finite, sum_near, share_near, sum_fits, shares_at_most}
use Rattle.float_laws.specs.Products.{exact_cons}
use Rattle.float_laws.specs.Tight.{SharesTotal, shares_total}
use Rattle.definition.specs.Vectors.{normalize}
use Rattle.message_bounds.specs.Normalized.{normalize-is}
use Rattle.tree_error.specs.Off.{Off, off_rounded, off-scale, off_join, off_trans}
use Rattle.tree_error.specs.Weights.{later, sum_below}
use Rattle.tree_error.specs.Terms.{Offs}

-- ---- a sum of at most n values
near_off : (m n E S q : ℕ) → m ≤ n → Near m E S → Off (4 * n) 0 (S * q) (E * q)
near_off m n E S q h i = omega (arith, mul-le-mul_right q i.over, mul-le-mul_right q i.under, mul-le-mul_left (E * q) h)

pub summed : (k n w w' q C : ℕ) (ts : List Float) → k ≤ 4096 → n ≤ 1024 → length ts ≤ n → 4097 * w ≤ 4096 * w' → AllAtMost 1 ts
    → Off k w (exact_sum 0 ts * q) C → Off (k + 4 * n + 1) w' (val32 (sum_from zeroᶠ ts) * q) C
summed k n w w' q C ts h g l r m o =
    let s = near_off (length ts) n (exact_sum 0 ts) (val32 (sum_from zeroᶠ ts)) q l (sum_near 1 ts (omega arith) (omega arith) (lit≤ tt) m) in
    off_trans o s h (omega arith) (le_of_eq refl) (omega arith)

-- ---- a share: of a value that is exact, and of one that is off
pub share_plain : (K : ℕ) (x s : Float) → K ≤ 2 ^ 24 → AtMost K x → T (fits binary32 s) → T (positive s) → T (finite (div binary32 x s))
    → Off 1 (val32 s) (val32 (div binary32 x s) * val32 s) (val32 x * 2 ^ 149)
share_plain K x s g n u q f =
    let i = share_near K x s g n u q f in
    off_rounded (val32 (div binary32 x s) * val32 s) (val32 x * 2 ^ 149) (val32 s) i.over i.under

pub share-off : (K k w w' t C : ℕ) (x s : Float) → K ≤ 2 ^ 24 → k ≤ 4096 → AtMost K x → T (fits binary32 s) → T (positive s) → T (finite (div binary32 x s))
    → 4097 * w + 4096 * (val32 s * t) ≤ 4096 * w' → Off k w (val32 x * (2 ^ 149 * t)) C → Off (k + 2) w' (val32 (div binary32 x s) * (val32 s * t)) C
share-off K k w w' t C x s g h n u q f r o =
    let a = rw (mul_assoc (val32 (div binary32 x s)) (val32 s) t, mul_assoc (val32 x) (2 ^ 149) t) at (off-scale t (share_plain K x s g n u q f)) in
    off_trans o a h (lit≤ tt) (omega arith) r

-- ---- what is normalised
few_all : (n K : ℕ) → n ≤ 1024 → K ≤ 1024 → n * K ≤ 2 ^ 24
few_all n K h k = omega (arith, mul-le-mul_right K h)

-- a list of values that are off exact ones, divided by its sum: two parts more, and the sum goes into the common factor
module _ (K k W W' P t : ℕ) (c : ℕ → ℕ) (xs : List Float) (few : K ≤ 1024) (short : length xs ≤ 1024) (parts : k ≤ 4096)
    (nice : AllAtMost K xs) (some : T (positive (sum_from zeroᶠ xs)))
    (room : 4097 * (W * (2 ^ 149 * t)) + 4096 * (val32 (sum_from zeroᶠ xs) * t) ≤ 4096 * (W' * (val32 (sum_from zeroᶠ xs) * t))) where
  abbrev s : Float
  s = sum_from zeroᶠ xs

  abbrev share : Float → Float
  share x = div binary32 x s

  s-fits : T (fits binary32 s)
  s-fits = sum_fits zeroᶠ xs (unfold fits in tt)

  shares_off : (m : ℕ) (c : ℕ → ℕ) (ys : List Float) → AllAtMost K ys → AllAtMost 1 (map share ys)
      → Offs k W P (2 ^ 149 * t) c (take m ys) → Offs (k + 2) W' P (val32 s * t) c (take m (map share ys))
  shares_off zero c ys n u o = tt
  shares_off (suc m) c [] n u o = tt
  shares_off (suc m) c (y ∷ ys) n u o = (
    share-off K k _ _ t (c 0 * P) y s (le_trans few (lit≤ tt)) parts n.0 s-fits some (at_most-finite 1 (share y) (lit≤ tt) u.0) room o.0,
    shares_off m (later c) ys n.1 u.1 o.1,
  )

  -- where no more than the first m are known
  pub normalize-take : (m : ℕ) → Offs k W P (2 ^ 149 * t) c (take m xs) → Offs (k + 2) W' P (val32 s * t) c (take m (normalize xs))
  normalize-take m o = rw (normalize-is xs) (shares_off m c xs nice (shares_at_most K xs (few_all (length xs) K short few) (le_trans few (lit≤ tt)) nice some) o)

  pub normalize-off : Offs k W P (2 ^ 149 * t) c xs → Offs (k + 2) W' P (val32 s * t) c (normalize xs)
  normalize-off o =
      let l : length (normalize xs) ≡ length xs = rw (normalize-is xs) (length-map xs share) in
      rw (take_all (length xs) (normalize xs) (le_of_eq l)) at (normalize-take (length xs) (rw (take-length xs) o))

-- it comes to 1 within 4 n + 3 parts
pub normal_tight : (K : ℕ) (l : List Float) → length l ≤ 1024 → K ≤ 1024 → AllAtMost K l → T (positive (sum_from zeroᶠ l))
    → Off (4 * length (normalize l) + 3) 0 (exact_sum 0 (normalize l)) (2 ^ 149)
normal_tight K l h k n q =
    rw (normalize-is l, length-map l (λ (x : Float). div binary32 x (sum_from zeroᶠ l)))
    (plain (length l) _ (2 ^ 149) (shares_total K l (few_all (length l) K h k) h (le_trans k (lit≤ tt)) n q))
  where
    plain : (n G U : ℕ) → SharesTotal n U G → Off (4 * n + 3) 0 G U
    plain n G U t = omega arith

-- ---- the total of all entries
pub offs_total : (k A P Q : ℕ) (g : ℕ → ℕ) (l : List Float) → Offs k A P Q g l → Off k (length l * A * Q) (exact_sum 0 l * Q) (sum_below (length l) g * P)
offs_total k A P Q g [] o = omega arith
offs_total k A P Q g (x ∷ l) o =
    let e : suc (length l) * A ≡ A + length l * A = omega arith in
    rw (exact_cons x l, e) (off_join k A _ (val32 x) _ (g 0) _ P Q Q o.0 (offs_total k A P Q (later g) l o.1))

-- against a list that comes to 1 it is at least 31 / 32
scaled : (k A n Q D P G U : ℕ) → k ≤ 4096 → n * A * 1024 ≤ U → 63 * U ≤ 64 * G → Off k (n * A * Q) (G * Q) (D * P) → 31 * (U * Q) ≤ 32 * (D * P)
scaled k A n Q D P G U h l g o = omega (arith, mul-le-mul_right Q g, mul-le-mul_right Q l, mul-le-mul_left (D * P) h)

pub offs_scaled : (k A P Q : ℕ) (g : ℕ → ℕ) (l : List Float) → k ≤ 4096 → length l * A * 1024 ≤ 2 ^ 149 → 63 * 2 ^ 149 ≤ 64 * exact_sum 0 l → Offs k A P Q g l
    → 31 * (2 ^ 149 * Q) ≤ 32 * (sum_below (length l) g * P)
offs_scaled k A P Q g l h r t o = scaled k A (length l) Q (sum_below (length l) g) P (exact_sum 0 l) (2 ^ 149) h r t (offs_total k A P Q g l o)

-- ---- the sum of all entries of a convolution: at least 7 / 8
whole : (k W N G U Q S D E P R Z : ℕ) → 0 < U * (Q * S) → k ≤ 4096 → N ≤ 1024 → N * W * 1024 ≤ U → 31 * (U * Q) ≤ 32 * (D * P) → 31 * (U * S) ≤ 32 * (E * R)
    → Off k (N * W * (U * (Q * S))) (G * (U * (Q * S))) (D * E * (P * R)) → Near N G Z → 7 * U ≤ 8 * Z
whole k W N G U Q S D E P R Z p h r l a b o i =
    let F = D * E * (P * R) in
    let c : 961 * (U * (U * (Q * S))) ≤ 1024 * F = omega (arith, mul-le-mul_right (31 * (U * S)) a, mul-le-mul_left (32 * (D * P)) b) in
    let d : 29 * (U * (U * (Q * S))) ≤ 32 * (G * (U * (Q * S))) = omega (arith, mul-le-mul_right (U * (Q * S)) l, mul-le-mul_left F h) in
    let e : 29 * U ≤ 32 * G = le_of_mul-le-mul_right {k = U * (Q * S)} (omega arith) p in
    omega (arith, mul-le-mul_left G r)

pub sum-enough : (k W P R Q S D E : ℕ) (c : ℕ → ℕ) (xs : List Float) (K : ℕ) → 0 < Q → 0 < S → k ≤ 4096 → length xs ≤ 1024 → K ≤ 1024
    → AllAtMost K xs → length xs * W * 1024 ≤ 2 ^ 149 → 31 * (2 ^ 149 * Q) ≤ 32 * (D * P) → 31 * (2 ^ 149 * S) ≤ 32 * (E * R) → sum_below (length xs) c ≡ D * E
    → Offs k W (P * R) (2 ^ 149 * (Q * S)) c xs → 7 * 2 ^ 149 ≤ 8 * val32 (sum_from zeroᶠ xs)
sum-enough k W P R Q S D E c xs K q s h n u m w a b e o =
    whole k W (length xs) (exact_sum 0 xs) (2 ^ 149) Q S D E P R (val32 (sum_from zeroᶠ xs)) (mul-pos (pow_pos 149) (mul-pos q s)) h n w a b
    (rw e at (offs_total k W (P * R) (2 ^ 149 * (Q * S)) c xs o)) (sum_near K xs (few_all (length xs) K n u) (le_trans n (lit≤ tt)) (le_trans u (lit≤ tt)) m)
