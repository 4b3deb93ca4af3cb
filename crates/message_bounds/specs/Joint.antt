-- The way up: each vector of the tree is normalised, and holds nothing beyond the number of its own real leaves.
use Rattle.std.specs.Prelude.{◌≡◌, List, [], ◌∷◌, ℕ, zero, suc, ◌+◌, ◌-◌, ◌*◌, ◌^◌, ◌≤◌, ◌<◌, T, length, get_or, replicate}
use Rattle.std.proofs.Math.Path.{refl, subst}
use Rattle.std.proofs.Common.{sym, ◌∙◌, le_trans, le_of_eq, mul-le-mul, mul-le-mul_left, mul-le-mul_right, arith, lit≤}
use Rattle.std.proofs.Math.ListN.{length-map}
use lib.Ieee.{Float, nan, binary32, div, le, fits}
use Rattle.std.specs.Float.Ieee.Fits.{mul-fits}
use Rattle.std.specs.Float.Ieee.Positive.{positive}
use Rattle.float_laws.specs.Laws.{zeroᶠ}
use Rattle.float_laws.specs.Sums.{sum_from, sum-positive}
use Rattle.float_laws.specs.Error.{val32, exact_sum}
use Rattle.float_laws.specs.Totals.{AtMost, AllAtMost, at_most-finite, at_most_each, at_most-at, sum_fits, shares_at_most}
use Rattle.float_laws.specs.Products.{mul_near, largest, units-positive}
use Rattle.float_laws.specs.Tight.{shares_one}
use Rattle.definition.specs.Floats.{◌⊗◌, oneᶠ}
use Rattle.definition.specs.Vectors.{Message, binary, normalize}
use Rattle.definition.specs.ConvolutionTree.{convolve}
use Rattle.graph_laws.specs.Convolution.{length-convolve, convolve_accumulates}
use Rattle.message_bounds.specs.Bounded.{BoundedEntries}
use Rattle.message_bounds.specs.Normalized.{one-at_most, at_most_times, normalize-is}
use Rattle.message_bounds.specs.Held.{bounded_at_most, bounded_positive}
use Rattle.message_bounds.specs.Zeros.{Zeros, zeros-all, zeros-share, live_rows}
use Rattle.message_bounds.specs.Products.{convolve-at_most, convolve_reaches}

-- a vector of n entries over r real leaves: a part in 64 about 1 in all, and nothing beyond entry r
pub record Joint (n r : ℕ) (j : List Float) : Type 0 where
  pub long : length j ≡ n
  pub short : suc r ≤ n
  pub nice : AllAtMost 1 j
  pub empty : Zeros (suc r) j
  pub least : 63 * 2 ^ 149 ≤ 64 * exact_sum 0 j
  pub most : 64 * exact_sum 0 j ≤ 65 * 2 ^ 149

-- ---- what is normalised, from a sum above zero
normal_joint : (K n r : ℕ) (l : List Float) → length l ≡ n → suc r ≤ n → n ≤ 1024 → K ≤ 1024 → AllAtMost K l → Zeros (suc r) l → T (positive (sum_from zeroᶠ l))
    → Joint n r (normalize l)
normal_joint K n r l e s h k m z q =
    let g : length l * K ≤ 2 ^ 24 = le_trans (mul-le-mul (le_trans (le_of_eq e) h) k) (lit≤ tt) in
    let t = shares_one K l g (omega arith) (omega arith) m q in
    let u = sum_fits zeroᶠ l (unfold fits in tt) in
    subst (Joint n r) (sym (normalize-is l))
    (record {
      long = length-map l (λ (x : Float). div binary32 x (sum_from zeroᶠ l)) ∙ e;
      short = s;
      nice = shares_at_most K l g (omega arith) m q;
      empty = zeros-share (suc r) (sum_from zeroᶠ l) l u q z;
      least = t.0;
      most = t.1;
    })

-- ---- two vectors: the largest entries' product does not vanish
-- of n ≤ 65 entries that come to 63/64 or more, one is 1/128 or more
large-enough : (n E X U : ℕ) → n ≤ 65 → 63 * U ≤ 64 * E → E ≤ n * X → U ≤ 128 * X
large-enough n E X U h a b = let m : n * X ≤ 65 * X = mul-le-mul_right X h in omega arith

some_left : (X Y G U : ℕ) → 16384 ≤ U → U ≤ 128 * X → U ≤ 128 * Y → X * Y * 16777216 ≤ G * U * 16777216 + X * Y + U * 8388608 → 0 < G
some_left X Y zero U u a b h =
    let p : U * U ≤ 128 * X * U = mul-le-mul_right U a in
    let q : X * U ≤ X * (128 * Y) = mul-le-mul_left X b in
    let v : 16384 * U ≤ U * U = mul-le-mul_right U u in
    absurd (let z : ⊥ = omega arith in z)
some_left X Y (suc G) U u a b h = omega arith

module _ {n r s : ℕ} {a b : List Float} (A : Joint n r a) (B : Joint n s b) (few : n ≤ 65) where
  one_of : (l : List Float) (k : ℕ) → Joint n k l → (i : ℕ) × (i < length l) × (2 ^ 149 ≤ 128 * val32 (get_or l i nan))
  one_of [] k J = absurd (let z : ⊥ = omega (arith, J.long, J.short) in z)
  one_of (x ∷ l) k J =
      let m = largest x l in
      (m.0, m.1, large-enough (suc (length l)) (exact_sum 0 (x ∷ l)) (val32 (get_or (x ∷ l) m.0 nan)) (2 ^ 149) (omega (arith, J.long)) J.least m.2)

  product-positive : (x y : Float) → AtMost 1 x → AtMost 1 y → 2 ^ 149 ≤ 128 * val32 x → 2 ^ 149 ≤ 128 * val32 y → T (positive (x ⊗ y))
  product-positive x y p q g h =
      let t = at_most_times x y p q in
      let f = at_most-finite 1 (x ⊗ y) (lit≤ tt) t in
      units-positive (x ⊗ y) t.clear_sign f
      (some_left (val32 x) (val32 y) (val32 (x ⊗ y)) (2 ^ 149) (lit≤ tt) g h (mul_near 1 x y (lit≤ tt) p q).under)

  pub convolve-positive : T (positive (sum_from zeroᶠ (convolve a b)))
  convolve-positive =
      let l : length a ≤ 65 = omega (arith, A.long) in
      let m : length b ≤ 65 = omega (arith, B.long) in
      let x = one_of a r A in
      let y = one_of b s B in
      let o = convolve_reaches a b x.0 y.0 (omega arith) A.nice B.nice x.1 y.1 in
      let k = convolve-at_most a b (omega arith) A.nice B.nice in
      let u = get_or a x.0 nan in
      let v = get_or b y.0 nan in
      sum-positive (length a) (convolve a b) o.0 (u ⊗ v) (le_trans (mul-le-mul_left (length (convolve a b)) l) (omega (arith, length-convolve a b)))
      (at_most_each (length a) (convolve a b) k) o.1 (mul-fits binary32 u v)
      (product-positive u v (at_most-at 1 a x.0 A.nice x.1) (at_most-at 1 b y.0 B.nice y.1) x.2 y.2) o.2

  convolve-zeros : Zeros (suc (r + s)) (convolve a b)
  convolve-zeros =
      let N = length a + length b - 1 in
      subst (Zeros (suc (r + s))) (sym (convolve_accumulates a b))
      (live_rows 0 (suc r) (suc s) (suc (r + s)) a b (replicate N zeroᶠ) A.nice B.nice A.empty B.empty (omega arith) (zeros-all (suc (r + s)) N))

  pub joined : Joint (n + n - 1) (r + s) (normalize (convolve a b))
  joined =
      normal_joint (length a) (n + n - 1) (r + s) (convolve a b) (omega (arith, length-convolve a b, A.long, B.long)) (omega (arith, A.short, B.short))
      (omega arith) (omega (arith, A.long)) (convolve-at_most a b (omega (arith, A.long)) A.nice B.nice) convolve-zeros convolve-positive

-- ---- the leaves
pub real_leaf : (m : Message) → length m ≡ 2 → BoundedEntries m → Joint 2 1 (normalize m)
real_leaf [] l h = absurd (let z : ⊥ = omega arith in z)
real_leaf (x ∷ []) l h = absurd (let z : ⊥ = omega arith in z)
real_leaf (x ∷ y ∷ z ∷ m) l h = absurd (let w : ⊥ = omega arith in w)
real_leaf (x ∷ y ∷ []) l h =
    normal_joint 1 2 1 (x ∷ y ∷ []) refl (lit≤ tt) (lit≤ tt) (lit≤ tt) (bounded_at_most (x ∷ y ∷ []) h) tt (bounded_positive (x ∷ y ∷ []) (lit≤ tt) (lit≤ tt) h)

pub padding : Joint 2 0 (normalize (binary oneᶠ zeroᶠ))
padding =
    let j = oneᶠ ∷ zeroᶠ ∷ [] in
    let n : AllAtMost 1 j = (one-at_most, (record { held = unfold fits in tt; clear_sign = tt; small = unfold le lib.Ieee.of_int in tt }, tt)) in
    normal_joint 1 2 0 j refl (lit≤ tt) (lit≤ tt) (lit≤ tt) n (refl, tt)
    (sum-positive 1 j 0 oneᶠ (lit≤ tt) (at_most_each 1 j n) (lit≤ tt) (unfold fits in tt) tt (unfold le in tt))
