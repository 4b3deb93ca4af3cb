-- The way up: each vector of a layer is off the exact sums of its leaves by so many parts, and so many units more.
use Rattle.std.specs.Prelude.{◌≡◌, refl, ℕ, suc, ◌+◌, ◌-◌, ◌*◌, ◌^◌, ◌≤◌, ◌<◌, T, length, take, Float}
use Rattle.std.proofs.Common.{◌∙◌, le_trans, mul-le-mul_left, mul-le-mul_right, arith, lit≤, length-append}
use mathlib.Core.List.{List, ◌++◌}
use Rattle.std.proofs.Math.Nat.{mul-pos}
use Rattle.std.specs.Float.Ieee.{fits}
use Rattle.std.specs.Float.Ieee.Positive.{positive}
use Rattle.float_laws.specs.Laws.{zeroᶠ}
use Rattle.float_laws.specs.Sums.{sum_from}
use Rattle.float_laws.specs.Error.{val32, exact_sum}
use Rattle.float_laws.specs.Totals.{AllAtMost, sum_fits, val_pos}
use Rattle.definition.specs.Vectors.{sum_of, normalize}
use Rattle.definition.specs.ConvolutionTree.{convolve}
use Rattle.graph_laws.specs.Convolution.{length-convolve, convolve-is, terms}
use Rattle.message_bounds.specs.Normalized.{sum_of-is}
use Rattle.message_bounds.specs.Products.{convolve-at_most, terms-at_most}
use Rattle.message_bounds.specs.Joint.{Joint, convolve-positive}
use Rattle.tree_error.specs.Off.{Off}
use Rattle.tree_error.specs.Weights.{Leaf, weight, weight_append, weight_beyond, total, total_append, sum_weights, sum_below}
use Rattle.tree_error.specs.Terms.{Offs, offs_count, first-most, slacks, terms-off}
use Rattle.tree_error.specs.Shares.{summed, normalize-off, offs_scaled, sum-enough, normal_tight}

-- ---- the room that the units beside the parts take
room_sum : (A n X Y U t : ℕ) → 64 * X ≤ 65 * U → 64 * Y ≤ 65 * U → n * A * 1024 ≤ U → 4097 * (slacks A A n X Y U * t) ≤ 4096 * ((10 * A + 2 * n) * (U * t))
room_sum A n X Y U t h g l = omega (arith, mul-le-mul_left (A * t) h, mul-le-mul_left (A * t) g, mul-le-mul_left (A * t) l)

room_share : (A n U Z t : ℕ) → 7 * U ≤ 8 * Z → 4097 * ((10 * A + 2 * n) * (U * t)) + 4096 * (Z * t) ≤ 4096 * ((12 * A + 4 * n + 1) * (Z * t))
room_share A n U Z t h = omega (arith, mul-le-mul_left ((10 * A + 2 * n) * t) h)

room_all : (m W U : ℕ) → m ≤ 130 → W * 262144 ≤ U → m * W * 1024 ≤ U
room_all m W U h g = omega (arith, mul-le-mul_right W h)

-- the vector j of the leaves ls: k parts and A units beside them off P / Q times the exact sums
pub record NearWeights (k A : ℕ) (ls : List Leaf) (j : List Float) : Type 0 where
  pub tight : Off (4 * length j + 3) 0 (exact_sum 0 j) (2 ^ 149)
  pub P : ℕ
  pub Q : ℕ
  pub P-some : 0 < P
  pub Q-some : 0 < Q
  pub close : Offs k A P Q (λ (i : ℕ). weight i ls) j

-- ---- two vectors of n entries
module _ (n k A : ℕ) (ls ms : List Leaf) (a b : List Float) (J : Joint n (length ls) a) (K : Joint n (length ms) b) (x : NearWeights k A ls a) (y : NearWeights k A ms b)
    (few : n ≤ 65) (parts : 2 * k + 4 * n + 4 ≤ 4096) (units : (10 * A + 2 * n) * 262144 ≤ 2 ^ 149) where
  abbrev U : ℕ
  U = 2 ^ 149

  abbrev P : ℕ
  P = x.P * y.P

  abbrev t : ℕ
  t = x.Q * y.Q

  -- the parts and the units beside them before the division
  abbrev d : ℕ
  d = k + k + 3 + 4 * n + 1

  abbrev W : ℕ
  W = 10 * A + 2 * n

  abbrev w : ℕ → ℕ
  w i = weight i (ls ++ ms)

  abbrev xs : List Float
  xs = convolve a b

  z : Float
  z = sum_from zeroᶠ xs

  xs-long : length xs ≡ n + n - 1
  xs-long = rw (length-convolve a b, J.long, K.long) refl

  units_few : (m : ℕ) → m ≤ 130 → m * A * 1024 ≤ U
  units_few m h = room_all m A U h (le_trans (mul-le-mul_right 262144 (let e : A ≤ W = omega arith in e)) units)

  abbrev g : ℕ → Float
  g i = sum_of (terms (suc i) a b)

  beyond : (ls : List Leaf) (a : List Float) → Joint n (length ls) a → (i : ℕ) → length a ≤ i → weight i ls ≡ 0
  beyond ls a J i h = weight_beyond i ls (omega (arith, J.long, J.short))

  entry-off : (i : ℕ) → Off d (W * (U * t)) (val32 (g i) * (U * t)) (w i * P)
  entry-off i =
      let ts = terms (suc i) a b in
      let l = terms-at_most (suc i) a b J.nice K.nice in
      let X = exact_sum 0 a in
      let Y = exact_sum 0 (take (suc i) b) in
      let room = room_sum A n X Y U t J.most (le_trans (mul-le-mul_left 64 (first-most (suc i) b)) K.most) (units_few n (omega arith)) in
      let o = terms-off k k A A x.P x.Q y.P y.Q (omega arith) b _ K.nice y.close (beyond ms b K) (suc i) a (λ (i : ℕ). weight i ls) J.nice x.close (beyond ls a J) in
      rw (sum_of-is ts, weight_append i ls ms)
      (summed (k + k + 3) n (slacks A A n X Y U * t) _ (U * t) _ ts (omega arith) (omega arith) (omega (arith, l.1, J.long)) room l.0 (rw J.long at o))

  sums-off : Offs d W P (U * t) w xs
  sums-off = rw (convolve-is a b) (offs_count d W P (U * t) w g (length a + length b - 1) (λ (i : ℕ) (h : i < length a + length b - 1). entry-off i))

  xs-at_most : AllAtMost n xs
  xs-at_most = rw J.long at (convolve-at_most a b (omega (arith, J.long)) J.nice K.nice)

  xs-short : length xs ≤ 130
  xs-short = omega (arith, xs-long)

  z-positive : T (positive z)
  unfolding z
  z-positive = convolve-positive J K few

  all_weights : sum_below (length xs) w ≡ total ls * total ms
  all_weights = sum_weights (length xs) (ls ++ ms) (omega (arith, length-append ls ms, xs-long, J.short, K.short)) ∙ total_append ls ms

  z-enough : 7 * U ≤ 8 * val32 z
  unfolding z
  z-enough =
      sum-enough d W x.P y.P x.Q y.Q (total ls) (total ms) w xs n x.Q-some y.Q-some (omega arith) (le_trans xs-short (lit≤ tt)) (omega arith) xs-at_most
      (room_all (length xs) W U xs-short units) (one ls a J x) (one ms b K y) all_weights sums-off
    where
      one : (ls : List Leaf) (a : List Float) → Joint n (length ls) a → (x : NearWeights k A ls a) → 31 * (U * x.Q) ≤ 32 * (total ls * x.P)
      one ls a J x =
          rw (sum_weights (length a) ls (omega (arith, J.long, J.short))) at
          (offs_scaled k A x.P x.Q (λ (i : ℕ). weight i ls) a (omega arith) (units_few (length a) (omega (arith, J.long))) J.least x.close)

  joined-off : Offs (d + 2) (12 * A + 4 * n + 1) P (val32 z * t) w (normalize xs)
  unfolding z
  joined-off =
      normalize-off n d W (12 * A + 4 * n + 1) P t w xs (omega arith) (le_trans xs-short (lit≤ tt)) (omega arith) xs-at_most z-positive
      (room_share A n U (val32 z) t z-enough) sums-off

  scale-positive : 0 < val32 z * t
  unfolding z
  scale-positive = mul-pos (val_pos z (sum_fits zeroᶠ xs (unfold fits in tt)) z-positive) (mul-pos x.Q-some y.Q-some)

  joined_tight : Off (4 * length (normalize xs) + 3) 0 (exact_sum 0 (normalize xs)) U
  unfolding z
  joined_tight = normal_tight n xs (le_trans xs-short (lit≤ tt)) (omega arith) xs-at_most z-positive

  pub joined_near : NearWeights (d + 2) (12 * A + 4 * n + 1) (ls ++ ms) (normalize xs)
  joined_near = record { tight = joined_tight; P = P; Q = val32 z * t; P-some = mul-pos x.P-some y.P-some; Q-some = scale-positive; close = joined-off }
