-- The way down: a vector's first entries, as many as it has real leaves and one more, stay above a bound that shrinks by a known factor a level.
use Rattle.std.specs.Prelude.{◌≡◌, refl, List, [], ◌∷◌, map, ℕ, zero, suc, ◌+◌, ◌*◌, ◌^◌, ◌≤◌, ◌<◌, T, length, take, drop, get_or, Float}
use Rattle.std.proofs.Common.{ap, ◌∙◌, subst, inl, inr, le_trans, le_of_eq, mul-le-mul, mul-le-mul_left, eq-or-lt_of_le, arith, lit≤, length-drop}
use Rattle.std.proofs.Math.Path.{fun_ext}
use Rattle.std.proofs.lemmas.Simd.{map-map}
use Rattle.std.proofs.Math.Nat.{le_of_mul-le-mul_left}
use Rattle.std.proofs.lemmas.List.{length-map}
use Rattle.std.specs.Float.{nan, binary32}
use Rattle.std.specs.Float.Ieee.{div, fits}
use Rattle.std.specs.Float.Ieee.Positive.{positive}
use Rattle.float_laws.specs.Order.{le-refl-at, finite_number}
use Rattle.float_laws.specs.Laws.{zeroᶠ}
use Rattle.float_laws.specs.Sums.{sum_from, sum-positive}
use Rattle.float_laws.specs.Error.{val32}
use Rattle.float_laws.specs.Totals.{AtMost, AllAtMost, at_most-finite, at_most_each, sum_fits, shares_at_most}
use Rattle.float_laws.specs.Products.{AllOver, at_most-drop, units-positive}
use Rattle.float_laws.specs.Tight.{AllUnder, sum_under, share_tight}
use Rattle.definition.specs.Lists.{range}
use Rattle.definition.specs.Vectors.{normalize}
use Rattle.definition.specs.ConvolutionTree.{message_up}
use Rattle.graph_laws.specs.Lists.{length_count}
use Rattle.graph_laws.specs.Lengths.{length-message_up}
use Rattle.message_bounds.specs.Normalized.{normalize-is, normal-at_most}
use Rattle.message_bounds.specs.DotProducts.{dot, dot-is, dot-at_most, dot-most, dot-least}
use Rattle.message_bounds.specs.Joint.{Joint}

-- entries 0 to r are at least B units
pub record LikelihoodBound (B r : ℕ) (l : List Float) : Type 0 where
  pub long : suc r ≤ length l
  pub nice : AllAtMost 1 l
  pub over : AllOver B (take (suc r) l)

-- ---- parts of a vector
over_fewer : (B m w : ℕ) (l : List Float) → m ≤ w → AllOver B (take w l) → AllOver B (take m l)
over_fewer B zero w l h o = tt
over_fewer B (suc m) zero l h o = absurd (let z : ⊥ = omega arith in z)
over_fewer B (suc m) (suc w) [] h o = tt
over_fewer B (suc m) (suc w) (x ∷ l) h o = (o.0, over_fewer B m w l (omega arith) o.1)

over-part : (B k m w : ℕ) (l : List Float) → k + m ≤ w → AllOver B (take w l) → AllOver B (take m (drop k l))
over-part B zero m w l h o = over_fewer B m w l (omega arith) o
over-part B (suc k) m zero l h o = absurd (let z : ⊥ = omega arith in z)
over-part B (suc k) zero (suc w) [] h o = tt
over-part B (suc k) (suc m) (suc w) [] h o = tt
over-part B (suc k) m (suc w) (x ∷ l) h o = over-part B k m w l (omega arith) o.1

-- ---- lists that are counted out
module _ (g : ℕ → Float) where
  at_most_count : (K i n : ℕ) → ((k : ℕ) → AtMost K (g k)) → AllAtMost K (map g (range i n))
  at_most_count K i zero f = tt
  at_most_count K i (suc n) f = (f i, at_most_count K (suc i) n f)

  under_count : (U i n : ℕ) → ((k : ℕ) → 8 * val32 (g k) ≤ 9 * U) → AllUnder U (map g (range i n))
  under_count U i zero f = tt
  under_count U i (suc n) f = (f i, under_count U (suc i) n f)

  head_counted : (i n : ℕ) → 0 < n → get_or (map g (range i n)) 0 nan ≡ g i
  head_counted i zero h = absurd (let z : ⊥ = omega arith in z)
  head_counted i (suc n) h = refl

  over_count : (B i n : ℕ) → ((k : ℕ) → k < i + n → B ≤ val32 (g k)) → AllOver B (map g (range i n))
  over_count B i zero f = tt
  over_count B i (suc n) f = (f i (omega arith), over_count B (suc i) n (λ k h. f k (omega arith)))

  take_counted : (i m n : ℕ) → m ≤ n → take m (map g (range i n)) ≡ map g (range i m)
  take_counted i zero n l = refl
  take_counted i (suc m) zero l = absurd (let z : ⊥ = omega arith in z)
  take_counted i (suc m) (suc n) l = ap (λ (t : List Float). g i ∷ t) (take_counted (suc i) m n (omega arith))

  at_most-counted : (h : Float → Float) (K i n k : ℕ) → i ≤ k → k < i + n → AllAtMost K (map h (map g (range i n))) → AtMost K (h (g k))
  at_most-counted h K i zero k a b m = absurd (let z : ⊥ = omega arith in z)
  at_most-counted h K i (suc n) k a b m =
      elim (eq-or-lt_of_le a) [ inl e ↦ subst (λ (j : ℕ). AtMost K (h (g j))) e m.0 | inr l ↦ at_most-counted h K (suc i) n k l (omega arith) m.1 ]

-- ---- one step: B ≥ 2 n B' leaves B'
settle : (n B B' X G : ℕ) → 0 < n → 2 * n * B' ≤ B → 7 * B ≤ 8 * X → 7 * X ≤ 2 * (5 * n) * G → B' ≤ G
settle n B B' X G p a b h = le_of_mul-le-mul_left {k = n} (let z : n * B' ≤ n * G = omega arith in z) p

enough : (n B B' X : ℕ) → 256 ≤ B' → 2 * n * B' ≤ B → 7 * B ≤ 8 * X → 16 * (5 * n) ≤ X
enough n B B' X u a b = let m : n * 256 ≤ n * B' = mul-le-mul_left n u in omega arith

-- the likelihoods l of a vector over r + s real leaves, and the vector b of s of them: one step to the likelihoods of the other, over r
pub record StepDown (n r s B B' : ℕ) (b l : List Float) : Type 0 where
  pub few : n ≤ 65
  pub own : suc r ≤ n
  pub joint : Joint n s b
  pub bound : LikelihoodBound B (r + s) l
  pub some : 256 ≤ B'
  pub step : 2 * n * B' ≤ B

abbrev pub dot_at : List Float → List Float → ℕ → Float
dot_at b l k = dot b (drop k l)

abbrev pub dots : ℕ → List Float → List Float → List Float
dots n b l = map (dot_at b l) (range 0 n)

abbrev pub dot_sum : ℕ → List Float → List Float → Float
dot_sum n b l = sum_from zeroᶠ (dots n b l)

pub length-dots : (n : ℕ) (b l : List Float) → length (dots n b l) ≡ n
length-dots n b l = simp (length-map, length_count)

pub dots_fit : (n : ℕ) (b l : List Float) → T (fits binary32 (dot_sum n b l))
dots_fit n b l = sum_fits zeroᶠ (dots n b l) (unfold fits in tt)

pub first-dots : (n m : ℕ) (b l : List Float) → m ≤ n → take m (dots n b l) ≡ map (dot_at b l) (range 0 m)
first-dots n m b l h = take_counted (dot_at b l) 0 m n h

pub message_up-is_lem : (n : ℕ) (b l : List Float) → message_up n b l ≡ normalize (dots n b l)
unfolding message_up
message_up-is_lem n b l = ap (λ (g : ℕ → Float). normalize (map g (range 0 n))) (fun_ext (λ (k : ℕ). dot-is b (drop k l)))

abbrev share_at : ℕ → List Float → List Float → ℕ → Float
share_at n b l k = div binary32 (dot_at b l k) (dot_sum n b l)

first_shares : (n m : ℕ) (b l : List Float) → m ≤ n → take m (message_up n b l) ≡ map (share_at n b l) (range 0 m)
first_shares n m b l h =
    ap (take m) (message_up-is_lem n b l ∙ normalize-is (dots n b l) ∙ map-map (λ (x : Float). div binary32 x (dot_sum n b l)) (dot_at b l) (range 0 n))
    ∙ take_counted (share_at n b l) 0 m n h

module _ {n r s B B' : ℕ} {b l : List Float} (D : StepDown n r s B B' b l) where
  rest-at_most : (k : ℕ) → AllAtMost 1 (drop k l)
  rest-at_most k = at_most-drop 1 k l D.bound.nice

  short : length b ≤ 1024
  short = le_trans (le_of_eq D.joint.long) (omega arith)

  dot-size : (k : ℕ) → AtMost n (dot_at b l k)
  dot-size k = dot-at_most n b (drop k l) D.joint.long (omega arith) D.joint.nice (rest-at_most k)

  pub least-dot : (k : ℕ) → k ≤ r → 7 * B ≤ 8 * val32 (dot_at b l k)
  least-dot k h =
      let m : n * 256 ≤ n * B' = mul-le-mul_left n D.some in
      dot-least (suc s) B b (drop k l) short (omega (arith, D.joint.short, D.joint.long)) (omega (arith, length-drop k l, D.bound.long)) D.joint.nice
      (rest-at_most k) D.joint.empty D.joint.least (over-part B k (suc s) (suc (r + s)) l (omega arith) D.bound.over)
      (omega (arith, D.joint.short, D.step))

  room : length (dots n b l) * n ≤ 2 ^ 24
  room = le_trans (mul-le-mul (le_trans (le_of_eq (length-dots n b l)) D.few) D.few) (lit≤ tt)

  pub dots-at_most : AllAtMost n (dots n b l)
  dots-at_most = at_most_count (dot_at b l) n 0 n dot-size

  pub dots-positive : T (positive (dot_sum n b l))
  dots-positive =
      let k = dot-size 0 in
      let f = at_most-finite n (dot_at b l 0) (omega arith) k in
      sum-positive n (dots n b l) 0 (dot_at b l 0) room (at_most_each n (dots n b l) dots-at_most) (omega (arith, length-dots n b l)) k.held
      (units-positive (dot_at b l 0) k.clear_sign f first-units)
      (rw (head_counted (dot_at b l) 0 n (omega arith)) (le-refl-at (dot_at b l 0) (finite_number (dot_at b l 0) f)))
    where
      first-units : 0 < val32 (dot_at b l 0)
      first-units = le_trans (let z : 0 < 16 * (5 * n) = omega arith in z) (enough n B B' (val32 (dot_at b l 0)) D.some D.step (least-dot 0 (omega arith)))

  share-at_most : (k : ℕ) → k < n → AtMost 1 (share_at n b l k)
  share-at_most k h =
      at_most-counted (dot_at b l) (λ (x : Float). div binary32 x (dot_sum n b l)) 1 0 n k (omega arith) (omega arith)
      (shares_at_most n (dots n b l) room (omega arith) dots-at_most dots-positive)

  least-share : (k : ℕ) → k ≤ r → B' ≤ val32 (share_at n b l k)
  least-share k h =
      let low = least-dot k h in
      settle n B B' (val32 (dot_at b l k)) (val32 (share_at n b l k)) (omega arith) D.step low
      (share_tight n (val32 (dot_at b l k)) (5 * n) (dot_at b l k) (dot_sum n b l) (omega arith) (dot-size k) (dots_fit n b l) dots-positive
      (at_most-finite 1 _ (lit≤ tt) (share-at_most k (omega arith))) (le_of_eq refl) small (enough n B B' (val32 (dot_at b l k)) D.some D.step low))
    where
      most_each : (k : ℕ) → 8 * val32 (dot_at b l k) ≤ 9 * 2 ^ 149
      most_each k = dot-most b (drop k l) short D.joint.nice (rest-at_most k) D.joint.most

      small : 4 * val32 (dot_sum n b l) ≤ 5 * n * 2 ^ 149
      small =
          rw length-dots at
          (sum_under n (dots n b l) room (omega (arith, length-dots n b l)) (omega arith) dots-at_most (under_count (dot_at b l) (2 ^ 149) 0 n most_each))

  pub stepped : LikelihoodBound B' r (message_up n b l)
  stepped =
      record {
        long = omega (arith, length-message_up n b l);
        nice = rw message_up-is_lem (normal-at_most n (dots n b l) room (omega arith) dots-at_most dots-positive);
        over = rw (first_shares n (suc r) b l D.own) (over_count (share_at n b l) B' 0 (suc r) (λ k h. least-share k (omega arith)));
      }
