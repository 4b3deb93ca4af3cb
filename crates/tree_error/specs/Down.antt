-- The way down: the first entries of a vector's likelihoods, as many as it has real leaves and one more, are near the exact sums over all other leaves.
use Rattle.std.specs.Prelude.{refl, List, [], ◌∷◌, ℕ, zero, suc, ◌+◌, ◌*◌, ◌^◌, ◌≤◌, ◌<◌, length, take, drop, Float}
use Rattle.std.proofs.Common.{zero-le, le_trans, le_of_eq, le-add_left, one-mul, mul-le-mul_left, mul-le-mul_right, mul-pos, zero-add, suc-add, not-suc-le-zero, le_of_suc-le-suc, arith, lit≤, length-drop}
use Rattle.float_laws.specs.Error.{val32, exact_sum}
use Rattle.float_laws.specs.Totals.{AllAtMost, val_pos}
use Rattle.float_laws.specs.Products.{zip_mul, zip_at_most, AllOver, at_most-drop, exact_cons}
use Rattle.definition.specs.ConvolutionTree.{message_up}
use Rattle.graph_laws.specs.Lengths.{length-message_up}
use Rattle.message_bounds.specs.DotProducts.{zip_short}
use Rattle.message_bounds.specs.Likelihoods.{LikelihoodBound, StepDown, dot_at, dots, dot_sum, length-dots, dots_fit, first-dots, least-dot, dots-at_most, dots-positive, message_up-is_lem, stepped}
use Rattle.message_bounds.specs.Trees.{width, bound_some, short}
use Rattle.tree_error.specs.Off.{Off, off-more, off_part, off_fine}
use Rattle.tree_error.specs.Weights.{Leaf, weight, weight_beyond, like, like-sum, later}
use Rattle.tree_error.specs.Terms.{Offs, offs_count, dot-off, slacks}
use Rattle.tree_error.specs.Shares.{summed, normalize-take, normal_tight}
use Rattle.tree_error.specs.Numbers.{parts, extra, least, down_parts, down_parts-is, fits-at}
use Rattle.tree_error.specs.Layers.{JointNear}

-- the likelihoods of a vector of layer q over r real leaves: the first r + 1 are P / Q times c, but for so many parts
pub record LikelihoodNear (q r : ℕ) (c : ℕ → ℕ) (l : List Float) : Type 0 where
  pub long : length l ≤ width q
  pub tight : Off (4 * length l + 3) 0 (exact_sum 0 l) (2 ^ 149)
  pub bound : LikelihoodBound (least q) r l
  pub P : ℕ
  pub Q : ℕ
  pub P-some : 0 < P
  pub Q-some : 0 < Q
  pub close : Offs (down_parts q) 0 P Q c (take (suc r) l)

-- ---- parts of a vector
module _ (k A P Q : ℕ) where
  offs_fewer : (m w : ℕ) (c : ℕ → ℕ) (l : List Float) → m ≤ w → Offs k A P Q c (take w l) → Offs k A P Q c (take m l)
  offs_fewer zero w c l h o = tt
  offs_fewer (suc m) zero c l h o = absurd (not-suc-le-zero h)
  offs_fewer (suc m) (suc w) c [] h o = tt
  offs_fewer (suc m) (suc w) c (x ∷ l) h o = (o.0, offs_fewer m w (later c) l (le_of_suc-le-suc h) o.1)

  offs_part : (i m w : ℕ) (c : ℕ → ℕ) (l : List Float) → i + m ≤ w → Offs k A P Q c (take w l) → Offs k A P Q (λ (j : ℕ). c (i + j)) (take m (drop i l))
  offs_part zero m w c l h o = simp zero-add (offs_fewer m w c l (omega arith) o)
  offs_part (suc i) m zero c l h o = absurd (let z : ⊥ = omega arith in z)
  offs_part (suc i) zero (suc w) c [] h o = tt
  offs_part (suc i) (suc m) (suc w) c [] h o = tt
  offs_part (suc i) m (suc w) c (x ∷ l) h o = simp suc-add (offs_part i m w (later c) l (omega arith) o.1)

exact-drop : (i : ℕ) (l : List Float) → exact_sum 0 (drop i l) ≤ exact_sum 0 l
exact-drop zero l = le_of_eq refl
exact-drop (suc i) [] = le_of_eq refl
exact-drop (suc i) (x ∷ l) = rw (exact_cons x l) (le_trans (exact-drop i l) (le-add_left (exact_sum 0 l) (val32 x)))

-- ---- numbers
-- the units of a sum of products, where the likelihoods come to 65 / 64 at most
room_dot : (A n X Y U t : ℕ) → 64 * Y ≤ 65 * U → 4097 * (slacks A 0 n X Y U * t) ≤ 4096 * ((5 * A + 2 * n) * (U * t))
room_dot A n X Y U t h = omega (arith, mul-le-mul_left (A * t) h)

-- and a sum that is large beside them
enough-dot : (W B X y : ℕ) → 524288 * W ≤ 7 * B → 7 * B ≤ 8 * X → 65536 * (W * y) ≤ X * y
enough-dot W B X y h g = omega (arith, mul-le-mul_right y h, mul-le-mul_right y g)

-- what at most 65 shares come to, and those from one on
at-most : (n X G U : ℕ) → n ≤ 65 → X ≤ G → Off (4 * n + 3) 0 G U → 64 * X ≤ 65 * U
at-most n X G U h g o = let m : U * (4 * n + 3) ≤ U * 263 = mul-le-mul_left U (omega arith) in omega (arith, o.over)

-- a unit beside the parts is itself few parts of an entry that is large enough
pub offs_fine : (k j B P Q : ℕ) (c : ℕ → ℕ) (l : List Float) → k ≤ 4096 → k + 36 ≤ j → 524288 ≤ B → AllOver B l → Offs k 1 P Q c l → Offs j 0 P Q c l
offs_fine k j B P Q c [] h e g v o = tt
offs_fine k j B P Q c (x ∷ l) h e g v o =
    let m : 524288 * (1 * Q) ≤ val32 x * Q = rw one-mul (mul-le-mul_right Q (le_trans g v.0)) in
    let f = off_fine k (1 * Q) (val32 x * Q) (c 0 * P) h m o.0 in
    (off-more (k + 36) j 0 (0 * Q) _ _ e zero-le f, offs_fine k j B P Q (later c) l h e g v.1 o.1)

-- ---- one step
module _ (q r : ℕ) (ms : List Leaf) (b l : List Float) (c : ℕ → ℕ) (h : q < 6) (own : suc r ≤ width q) (J : JointNear q ms b)
    (L : LikelihoodNear (suc q) (r + length ms) c l) where
  abbrev n : ℕ
  n = width q

  abbrev s : ℕ
  s = length ms

  abbrev A : ℕ
  A = extra q

  abbrev d : ℕ
  d = down_parts (suc q)

  abbrev P : ℕ
  P = J.near.P * L.P

  abbrev t : ℕ
  t = J.near.Q * L.Q

  abbrev U : ℕ
  U = 2 ^ 149

  abbrev W : ℕ
  W = 5 * A + 2 * n

  abbrev k : ℕ
  k = parts q + d + 3 + 4 * n + 1

  few : n ≤ 65
  few = short q (omega arith)

  small : parts q + d + 4 * n + 400 ≤ 4096
  small = (fits-at q (omega arith)).down_small

  D : StepDown n r s (least (suc q)) (least q) b l
  D = record { few = few; own = own; joint = J.joint; bound = L.bound; some = le_trans (lit≤ tt) (bound_some 524288 q); step = le_of_eq refl }

  -- ---- a sum of products
  entry-off : (i : ℕ) → i ≤ r → Off k (W * (U * t)) (val32 (dot_at b l i) * (U * t)) (like c ms i * P)
  entry-off i g =
      summed (parts q + d + 3) n (slacks A 0 n (exact_sum 0 b) (exact_sum 0 w) U * t) (W * (U * t)) (U * t) (like c ms i * P) (zip_mul b w)
      (omega (arith, small)) (omega (arith, few)) (omega (arith, zip_short b w, J.joint.long)) (room_dot A n (exact_sum 0 b) (exact_sum 0 w) U t w-most)
      (zip_at_most 1 b w (lit≤ tt) J.joint.nice w-at_most) products
    where
      w : List Float
      w = drop i l

      w-at_most : AllAtMost 1 w
      w-at_most = at_most-drop 1 i l L.bound.nice

      w-most : 64 * exact_sum 0 w ≤ 65 * U
      w-most = at-most (length l) (exact_sum 0 w) (exact_sum 0 l) U (le_trans L.long (short (suc q) (omega arith))) (exact-drop i l) L.tight

      products : Off (parts q + d + 3) (slacks A 0 n (exact_sum 0 b) (exact_sum 0 w) U * t) (exact_sum 0 (zip_mul b w) * (U * t)) (like c ms i * P)
      products =
          rw (like-sum n c ms i (omega (arith, J.joint.short)))
          (rw J.joint.long at
          (dot-off (parts q) d A J.near.P J.near.Q L.P L.Q (suc s) b (λ (j : ℕ). weight j ms) w (λ (j : ℕ). c (i + j)) (omega (arith, small))
          J.joint.nice w-at_most J.joint.empty (λ (j : ℕ) (h : suc s ≤ j). weight_beyond j ms h) (omega (arith, length-drop i l, L.bound.long))
          J.near.close (offs_part d 0 L.P L.Q i (suc s) (suc (r + s)) c l (omega arith) L.close)))

  part_off : (i : ℕ) → i < suc r → Off (k + 260) (0 * (U * t)) (val32 (dot_at b l i) * (U * t)) (like c ms i * P)
  part_off i g =
      off-more (k + 260) (k + 260) 0 (0 * (U * t)) _ _ (le_of_eq refl) zero-le
      (off_part k (W * (U * t)) (val32 (dot_at b l i) * (U * t)) (like c ms i * P) (omega (arith, small))
      (enough-dot W (least (suc q)) (val32 (dot_at b l i)) (U * t) (fits-at q (omega arith)).down-units (least-dot D i (le_of_suc-le-suc g))) (entry-off i (le_of_suc-le-suc g)))

  -- ---- and all of them, divided
  abbrev Q : ℕ
  Q = val32 (dot_sum n b l) * t

  dots-short : length (dots n b l) ≤ 1024
  dots-short = omega (arith, few, length-dots n b l)

  up_close : Offs (down_parts q) 0 P Q (like c ms) (take (suc r) (message_up n b l))
  up_close =
      offs_fine (k + 260 + 2) (down_parts q) (least q) P Q (like c ms) (take (suc r) (message_up n b l)) (omega (arith, small)) (le_of_eq (down_parts-is q h))
      (bound_some 524288 q) (stepped D).over
      (rw message_up-is_lem
      (normalize-take n (k + 260) 0 1 P t (like c ms) (dots n b l) (omega (arith, few)) dots-short (omega (arith, small)) (dots-at_most D) (dots-positive D) (none (U * t) Q) (suc r)
      (rw (first-dots n (suc r) b l own) (offs_count (k + 260) 0 P (U * t) (like c ms) (dot_at b l) (suc r) part_off))))
    where
      none : (w x : ℕ) → 4097 * (0 * w) + 4096 * x ≤ 4096 * (1 * x)
      none w x = omega arith

  pub stepped_near : LikelihoodNear q r (like c ms) (message_up n b l)
  stepped_near =
      record {
        long = le_of_eq (length-message_up n b l);
        tight = rw message_up-is_lem (normal_tight n (dots n b l) dots-short (omega (arith, few)) (dots-at_most D) (dots-positive D));
        bound = stepped D;
        P = P;
        Q = Q;
        P-some = mul-pos J.near.P-some L.P-some;
        Q-some = mul-pos (val_pos (dot_sum n b l) (dots_fit n b l) (dots-positive D)) (mul-pos J.near.Q-some L.Q-some);
        close = up_close;
      }
