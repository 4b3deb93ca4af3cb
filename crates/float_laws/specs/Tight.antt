-- Tighter bounds for lists of at most 1,024 entries: shares total within one part in 64 of 1; a sum of products of such shares with values of at least B units is at least 7 B / 8, and at most 9 / 8;
-- and a share of a sum of n of those is at least 7 B / (10 n). These are the steps of a convolution tree.
use Rattle.std.specs.Prelude.{◌≡◌, refl, List, [], ◌∷◌, map, T, get_or, Float}
use Rattle.std.proofs.Common.{sym, ap, ◌∙◌, subst, le_trans, le_of_eq, add-zero, zero-add, suc-add, add-suc, mul_comm, mul_assoc, mul_right_comm, mul_left_comm, add-mul, mul-le-mul_left, mul-le-mul_right, le_of_mul-le-mul_right, suc-mul, lit≤, pow_pos}
use Prim.Native.Nat.{ℕ, suc, ◌+◌, ◌*◌, ◌^◌, ◌≤◌, ◌<◌, zero-le}
use native.Mathlib.Omega.{arith}
use Rattle.std.proofs.Math.ListN.{length}
use Rattle.std.specs.Float.{nan}
use Rattle.std.specs.Float.Ieee.{binary32, mul, div, le, fits}
use Rattle.std.specs.Float.Ieee.Scale.{finite}
use Rattle.std.specs.Float.Ieee.Positive.{positive}
use Rattle.float_laws.specs.Order.{finite-between}
use Rattle.float_laws.specs.Laws.{zeroᶠ, oneᶠ, mul-at-most-left}
use Rattle.float_laws.specs.Sums.{sum_from, one-is}
use Rattle.float_laws.specs.Error.{val32, exact_sum, Near}
use Rattle.float_laws.specs.Totals.{AtMost, AllAtMost, clear-low, at_most-finite, sum_near, share_near, share-at, sum_fits, val_pos, fine_of, total-from}
use Rattle.float_laws.specs.Products.{zip_mul, zip_at_most, zip_length, at_most-mul, AllOver, over-from, le→units}

-- ---- n ≤ 1024: the sum is within one part in 4096 of the exact one
near_1024 : (n E S : ℕ) → n ≤ 2 ^ 10 → Near n E S → (S * 4096 ≤ E * 4097) × (E * 4095 ≤ S * 4096)
near_1024 n E S h i = let m : E * n ≤ E * 2 ^ 10 = mul-le-mul_left E h in (omega (arith, i.over, i.under), omega (arith, i.over, i.under))

-- ---- the shares' total: within 4 n + 3 parts in 2 ^ 24 of 1
pub record SharesTotal (n U G : ℕ) : Type 0 where
  pub over : G * 2 ^ 24 ≤ U * 2 ^ 24 + U * (4 * n + 3)
  pub under : U * 2 ^ 24 ≤ G * 2 ^ 24 + U * (4 * n + 3)

-- G S is near E U and S near E, so G is near U
cancel : (n E G S U : ℕ) → 0 < S → n ≤ 2 ^ 10 → n * 2 ^ 24 ≤ U → Near n E S → G * S * 2 ^ 24 ≤ E * U * 2 ^ 24 + E * U + n * (S * 2 ^ 23) → E * U * 2 ^ 24 ≤ G * S * 2 ^ 24 + E * U + n * (S * 2 ^ 23) → SharesTotal n U G
cancel n E G S U p h k i a b =
    let c : E * U * 4095 ≤ S * U * 4096 = omega (arith, mul-le-mul_right U (near_1024 n E S h i).1) in
    let d : E * U * n * 3 ≤ S * U * n * 3 + S * U = omega (arith, mul-le-mul_right n c, mul-le-mul_left (S * U) h) in
    let f : n * (S * 2 ^ 23) * 2 ≤ S * U = omega (arith, mul-le-mul_left S k) in
    let x = mul-le-mul_right U i.over in
    let y = mul-le-mul_right U i.under in
    record { over = le_of_mul-le-mul_right {k = S} (omega arith) p; under = le_of_mul-le-mul_right {k = S} (omega arith) p }

pub shares_total : (K : ℕ) (xs : List Float) → length xs * K ≤ 2 ^ 24 → length xs ≤ 2 ^ 10 → K ≤ 2 ^ 24 → AllAtMost K xs → T (positive (sum_from zeroᶠ xs))
    → SharesTotal (length xs) (2 ^ 149) (exact_sum 0 (map (λ (x : Float). div binary32 x (sum_from zeroᶠ xs)) xs))
shares_total K xs g h k n q =
    let s = sum_from zeroᶠ xs in
    let u = sum_fits zeroᶠ xs (unfold fits in tt) in
    let f = fine_of s u q xs (λ (i : ℕ) (l : i < length xs). let w = share-at K xs i g k n q l in finite-between zeroᶠ (div binary32 (get_or xs i nan) s) oneᶠ tt tt w.low w.high) in
    let t = total-from s u q K 0 0 0 xs k (record { over = nothing (val32 s) (0 * 2 ^ 149 * 2 ^ 24 + 0 * 2 ^ 149 + 0 * (val32 s * 2 ^ 23)); under = zero-le }) n f in
    let t' = rw (zero-add (length xs)) at t in
    cancel (length xs) (exact_sum 0 xs) (exact_sum 0 (map (λ (x : Float). div binary32 x s) xs)) (val32 s) (2 ^ 149) (val_pos s u q) h (le_trans (mul-le-mul_right (2 ^ 24) h) (lit≤ tt)) (sum_near K xs g (le_trans h (lit≤ tt)) k n) t'.over t'.under
  where
    nothing : (v r : ℕ) → 0 * v * 2 ^ 24 ≤ r
    nothing v r = omega arith

pub shares_one : (K : ℕ) (xs : List Float) → length xs * K ≤ 2 ^ 24 → length xs ≤ 2 ^ 10 → K ≤ 2 ^ 24 → AllAtMost K xs → T (positive (sum_from zeroᶠ xs))
    → (63 * 2 ^ 149 ≤ 64 * exact_sum 0 (map (λ (x : Float). div binary32 x (sum_from zeroᶠ xs)) xs)) × (64 * exact_sum 0 (map (λ (x : Float). div binary32 x (sum_from zeroᶠ xs)) xs) ≤ 65 * 2 ^ 149)
shares_one K xs g h k n q = ends (length xs) (2 ^ 149) _ h (shares_total K xs g h k n q)
  where
    ends : (n U G : ℕ) → n ≤ 2 ^ 10 → SharesTotal n U G → (63 * U ≤ 64 * G) × (64 * G ≤ 65 * U)
    ends n U G h t = omega (arith, mul-le-mul_left U h)

-- ---- a sum of products from below
most : (A B P S n U : ℕ) → 0 < U → n ≤ 2 ^ 10 → 64 * n ≤ B → 63 * U ≤ 64 * A → Near n P S → A * B * 16777215 ≤ P * U * 16777216 + n * (U * 8388608) → 7 * B ≤ 8 * S
most A B P S n U u g h a i k =
    let r = near_1024 n P S g i in
    let w : B * 1056964545 ≤ P * 1073741824 + n * 536870912 = le_of_mul-le-mul_right {k = U} widen u in
    omega (arith, r.0, r.1)
  where
    widen : B * 1056964545 * U ≤ (P * 1073741824 + n * 536870912) * U
    widen =
        let b : 63 * U * B ≤ 64 * A * B = mul-le-mul_right B a in
        let c : 64 * A * B ≡ 64 * (A * B) = mul_assoc 64 A B in
        let c' : 63 * U * B ≡ 63 * (U * B) = mul_assoc 63 U B in
        let d : n * (U * 8388608) ≡ n * U * 8388608 = sym (mul_assoc n U 8388608) in
        let e : B * 1056964545 * U ≡ U * B * 1056964545 = mul_right_comm B 1056964545 U ∙ ap (λ (t : ℕ). t * 1056964545) (mul_comm B U) in
        let f : (P * 1073741824 + n * 536870912) * U ≡ P * U * 1073741824 + n * U * 536870912 = add-mul (P * 1073741824) (n * 536870912) U ∙ ap (λ (t : ℕ). t + n * 536870912 * U) (mul_right_comm P 1073741824 U) ∙ ap (λ (t : ℕ). P * U * 1073741824 + t) (mul_right_comm n 536870912 U) in
        omega arith

pub dot-over : (K B : ℕ) (xs ys : List Float) → length xs * K ≤ 2 ^ 24 → length xs ≤ 2 ^ 10 → K ≤ 2 ^ 24 → length xs ≡ length ys → AllAtMost K xs → AllAtMost 1 ys → AllOver B ys → 64 * length xs ≤ B → 63 * 2 ^ 149 ≤ 64 * exact_sum 0 xs
    → 7 * B ≤ 8 * val32 (sum_from zeroᶠ (zip_mul xs ys))
dot-over K B xs ys r g k l e f o h t =
    let z = zip_length xs ys l in
    most (exact_sum 0 xs) B (exact_sum 0 (zip_mul xs ys)) (val32 (sum_from zeroᶠ (zip_mul xs ys))) (length xs) (2 ^ 149) (pow_pos 149) g h t
    (subst (λ (n : ℕ). Near n (exact_sum 0 (zip_mul xs ys)) (val32 (sum_from zeroᶠ (zip_mul xs ys)))) z
    (sum_near K (zip_mul xs ys) (subst (λ (n : ℕ). n * K ≤ 2 ^ 24) (sym z) r) (subst (λ (n : ℕ). n ≤ 2 ^ 22) (sym z) (le_trans g (lit≤ tt))) k (zip_at_most K xs ys k e f)))
    (subst (λ (n : ℕ). exact_sum 0 xs * B * 16777215 ≤ exact_sum 0 (zip_mul xs ys) * 2 ^ 149 * 16777216 + n * (2 ^ 149 * 8388608)) (zero-add (length xs)) (over-from K 0 0 0 B xs ys k l e f o (nothing B (0 * 2 ^ 149 * 16777216 + 0 * (2 ^ 149 * 8388608)))))
  where
    nothing : (v r : ℕ) → 0 * v * 16777215 ≤ r
    nothing v r = omega arith

-- ---- and from above: no product is more than its first factor
under_from : (K A P : ℕ) (xs ys : List Float) → K ≤ 2 ^ 24 → P ≤ A → AllAtMost K xs → AllAtMost 1 ys → exact_sum P (zip_mul xs ys) ≤ exact_sum A xs
under_from K A P [] ys k h e f = h
under_from K A P (x ∷ xs) [] k h e f = le_trans h (grows A (x ∷ xs))
  where
    grows : (A : ℕ) (xs : List Float) → A ≤ exact_sum A xs
    grows A [] = le_of_eq refl
    grows A (x ∷ xs) = le_trans (more A (val32 x)) (grows (A + val32 x) xs)
      where
        more : (a b : ℕ) → a ≤ a + b
        more a b = omega arith
under_from K A P (x ∷ xs) (y ∷ ys) k h e f =
    let p = at_most-finite K x k e.0 in
    let q = at_most-finite 1 y (lit≤ tt) f.0 in
    let m = at_most-mul K x y k e.0 f.0 in
    let l = le→units (mul binary32 x y) x m.held e.0.held m.clear_sign e.0.clear_sign (at_most-finite K (mul binary32 x y) k m) p (mul-at-most-left x y e.0.held p q (clear-low x e.0.clear_sign) (subst (λ (z : Float). T (le y z)) one-is f.0.small)) in
    under_from K (A + val32 x) (P + val32 (mul binary32 x y)) xs ys k (both P A (val32 (mul binary32 x y)) (val32 x) h l) e.1 f.1
  where
    both : (a b c d : ℕ) → a ≤ b → c ≤ d → a + c ≤ b + d
    both a b c d h k = omega arith

cap : (n A P S U : ℕ) → n ≤ 2 ^ 10 → P ≤ A → 64 * A ≤ 65 * U → Near n P S → 8 * S ≤ 9 * U
cap n A P S U g h a i = let r = near_1024 n P S g i in omega (arith, r.0, r.1)

pub dot_under : (K : ℕ) (xs ys : List Float) → length xs * K ≤ 2 ^ 24 → length xs ≤ 2 ^ 10 → K ≤ 2 ^ 24 → length xs ≡ length ys → AllAtMost K xs → AllAtMost 1 ys → 64 * exact_sum 0 xs ≤ 65 * 2 ^ 149
    → 8 * val32 (sum_from zeroᶠ (zip_mul xs ys)) ≤ 9 * 2 ^ 149
dot_under K xs ys r g k l e f t =
    let z = zip_length xs ys l in
    cap (length xs) (exact_sum 0 xs) (exact_sum 0 (zip_mul xs ys)) (val32 (sum_from zeroᶠ (zip_mul xs ys))) (2 ^ 149) g (under_from K 0 0 xs ys k (le_of_eq refl) e f) t
    (subst (λ (n : ℕ). Near n (exact_sum 0 (zip_mul xs ys)) (val32 (sum_from zeroᶠ (zip_mul xs ys)))) z
    (sum_near K (zip_mul xs ys) (subst (λ (n : ℕ). n * K ≤ 2 ^ 24) (sym z) r) (subst (λ (n : ℕ). n ≤ 2 ^ 22) (sym z) (le_trans g (lit≤ tt))) k (zip_at_most K xs ys k e f)))

-- ---- a share from below: 4 S ≤ M U and 16 M ≤ B give G ≥ 7 B / (2 M)
share_step : (X S G B M U : ℕ) → 0 < U → B ≤ X → 4 * S ≤ M * U → 16 * M ≤ B → X * U * 16777216 ≤ G * S * 16777216 + X * U + S * 8388608 → 7 * B ≤ 2 * M * G
share_step X S G B M U u b s m h =
    let a : 4 * (G * S) ≤ M * G * U = le_trans (le_of_eq (mul_left_comm 4 G S)) (le_trans (mul-le-mul_left G s) (le_of_eq (sym (mul_assoc G M U) ∙ ap (λ (z : ℕ). z * U) (mul_comm G M)))) in
    let x : B * U ≤ X * U = mul-le-mul_right U b in
    let e : B * 67108860 * U ≡ B * U * 67108860 = mul_right_comm B 67108860 U in
    let f : (M * G * 16777216 + M * 8388608) * U ≡ M * G * U * 16777216 + M * U * 8388608 = add-mul (M * G * 16777216) (M * 8388608) U ∙ ap (λ (z : ℕ). z + M * 8388608 * U) (mul_right_comm (M * G) 16777216 U) ∙ ap (λ (z : ℕ). M * G * U * 16777216 + z) (mul_right_comm M 8388608 U) in
    let w : B * 67108860 ≤ M * G * 16777216 + M * 8388608 = le_of_mul-le-mul_right {k = U} (omega arith) u in
    let d : 2 * M * G ≡ 2 * (M * G) = mul_assoc 2 M G in
    omega arith

pub share_tight : (K B M : ℕ) (x s : Float) → K ≤ 2 ^ 24 → AtMost K x → T (fits binary32 s) → T (positive s) → T (finite (div binary32 x s)) → B ≤ val32 x → 4 * val32 s ≤ M * 2 ^ 149 → 16 * M ≤ B → 7 * B ≤ 2 * M * val32 (div binary32 x s)
share_tight K B M x s k n u q w b m h = share_step (val32 x) (val32 s) (val32 (div binary32 x s)) B M (2 ^ 149) (pow_pos 149) b m h (share_near K x s k n u q w).under

-- n values, each at most 9 / 8: four times their sum is at most 5 n
abbrev pub AllUnder : ℕ → List Float → Type 0
AllUnder c [] = Unit {0}
AllUnder c (x ∷ xs) = (8 * val32 x ≤ 9 * c) × AllUnder c xs

total_under : (c A m : ℕ) (xs : List Float) → 8 * A ≤ m * (9 * c) → AllUnder c xs → 8 * exact_sum A xs ≤ (m + length xs) * (9 * c)
total_under c A m [] h o = subst (λ (z : ℕ). 8 * A ≤ z * (9 * c)) (sym (add-zero m)) h
total_under c A m (x ∷ xs) h o =
    subst (λ (z : ℕ). 8 * exact_sum (A + val32 x) xs ≤ z * (9 * c)) (suc-add m (length xs) ∙ sym (add-suc m (length xs)))
    (total_under c (A + val32 x) (suc m) xs (grow A (val32 x) m (9 * c) h o.0) o.1)
  where
    grow : (a b m d : ℕ) → 8 * a ≤ m * d → 8 * b ≤ d → 8 * (a + b) ≤ suc m * d
    grow a b m d h k = let e : suc m * d ≡ m * d + d = suc-mul m d in omega arith

five : (n E S U : ℕ) → n ≤ 2 ^ 10 → Near n E S → 8 * E ≤ n * (9 * U) → 4 * S ≤ 5 * n * U
five n E S U g i h =
    let r = near_1024 n E S g i in
    let e : n * (9 * U) ≡ 9 * (n * U) = mul_left_comm n 9 U in
    let f : 5 * n * U ≡ 5 * (n * U) = mul_assoc 5 n U in
    omega (arith, r.0, r.1)

pub sum_under : (K : ℕ) (xs : List Float) → length xs * K ≤ 2 ^ 24 → length xs ≤ 2 ^ 10 → K ≤ 2 ^ 24 → AllAtMost K xs → AllUnder (2 ^ 149) xs → 4 * val32 (sum_from zeroᶠ xs) ≤ 5 * length xs * 2 ^ 149
sum_under K xs r g k n o = five (length xs) (exact_sum 0 xs) (val32 (sum_from zeroᶠ xs)) (2 ^ 149) g (sum_near K xs r (le_trans g (lit≤ tt)) k n) (subst (λ (z : ℕ). 8 * exact_sum 0 xs ≤ z * (9 * 2 ^ 149)) (zero-add (length xs)) (total_under (2 ^ 149) 0 0 xs zero-le o))
