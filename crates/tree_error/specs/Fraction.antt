-- From values that are off exact ones by a common scale to the exact fraction of the total.
use Rattle.std.proofs.Math.Path.{refl}
use Rattle.std.specs.Prelude.{Bool, cond, List, ℕ, zero, suc, ◌+◌, ◌*◌, ◌^◌, ◌≤◌, ◌<◌, T, Float, length, get_or}
use Rattle.std.proofs.Math.Bool.{true, false}
use Rattle.std.proofs.Common.{le_trans, le_of_eq, mul-le-mul_left, mul-le-mul_right, le_of_mul-le-mul_right, mul-pos, not-suc-le-zero, le_of_suc-le-suc, arith, lit≤}
use Rattle.std.proofs.Math.Nat.{le-add_left, le-add_right}
use Rattle.std.specs.Float.{nan}
use Rattle.std.specs.Float.Ieee.{lt, fits}
use Rattle.float_laws.specs.Order.{lt→le}
use Rattle.float_laws.specs.Error.{val32, exact_sum}
use Rattle.float_laws.specs.Totals.{AtMost, at_most-finite}
use Rattle.float_laws.specs.Products.{le→units}
use Rattle.definition.specs.Floats.{c, avoid_underflow}
use Rattle.tree_error.specs.Off.{Off, off-scale}
use Rattle.tree_error.specs.Weights.{later, sum_below}
use Rattle.tree_error.specs.Terms.{Offs, offs_at}
use Rattle.tree_error.specs.Shares.{offs_total}

-- x and y differ by at most a p-th of r
abbrev pub WithinShare : ℕ → ℕ → ℕ → ℕ → Type 0
WithinShare p x y r = (p * x ≤ p * y + r) × (p * y ≤ p * x + r)

-- X units against the fraction N / D: within one part in p
abbrev pub Close : ℕ → ℕ → ℕ → ℕ → Type 0
Close p X N D = WithinShare p (X * D) (N * 2 ^ 149) (D * 2 ^ 149)

-- v d against e u, from v against e and d against u
cross : (v e d u : ℕ) → e ≤ d → WithinShare 5000 v e u → WithinShare 4500 d u u → WithinShare 2048 (v * d) (e * u) (d * u)
cross v e d u l h g =
    let ud = mul-le-mul_right u l in
    omega (arith, mul-le-mul_right d h.0, mul-le-mul_right d h.1, mul-le-mul_left e g.0, mul-le-mul_left e g.1)

-- the same of v off e and g off d, where g is near u
at-scale : {k m a b v e g d u : ℕ} → Off k a v e → Off k b g d → Off m 0 g u → k ≤ 3300 → m ≤ 300 → a * 2 ^ 20 ≤ u → b * 2 ^ 20 ≤ u → e ≤ d
    → WithinShare 2048 (v * d) (e * u) (d * u)
at-scale {k} {m} {a} {b} {v} {e} {g} {d} {u} o q r h n x y l =
    let f : WithinShare 4500 d u u = omega (arith, mul-le-mul_left d h, mul-le-mul_left u n) in
    cross v e d u l (omega (arith, mul-le-mul_left e h)) f

-- the scale taken off: X and its exact value E, the total G and its exact value D
unscaled : (k m n A P Q X E G D U : ℕ) → 0 < P → 0 < Q → k ≤ 3300 → m ≤ 300 → suc n * A * 2 ^ 20 ≤ U → E ≤ D
    → Off k (A * Q) (X * Q) (E * P) → Off k (n * A * Q) (G * Q) (D * P) → Off m 0 G U → WithinShare 2048 (X * D) (E * U) (D * U)
unscaled k m n A P Q X E G D U p q h f w l o s t =
    let t' : Off m 0 (G * Q) (U * Q) = omega (arith, off-scale Q t) in
    let w' = mul-le-mul_right Q w in
    let r = at-scale o s t' h f (omega arith) (omega arith) (mul-le-mul_right P l) in
    (le_of_mul-le-mul_right {k = P * Q} (omega (arith, r.0)) (mul-pos p q), le_of_mul-le-mul_right {k = P * Q} (omega (arith, r.1)) (mul-pos p q))

-- ---- an entry of a list, against its share of the exact total
sum_has : (n : ℕ) (c : ℕ → ℕ) (i : ℕ) → i < n → c i ≤ sum_below n c
sum_has zero c i h = absurd (not-suc-le-zero h)
sum_has (suc n) c zero h = le-add_right (c 0) (sum_below n (later c))
sum_has (suc n) c (suc i) h = le_trans (sum_has n (later c) i (le_of_suc-le-suc h)) (le-add_left (sum_below n (later c)) (c 0))

module _ (k A P Q : ℕ) (c : ℕ → ℕ) (l : List Float) (p : 0 < P) (q : 0 < Q) (small : k ≤ 3300)
    (units : suc (length l) * A * 2 ^ 20 ≤ 2 ^ 149) (few : 4 * length l + 3 ≤ 300)
    (o : Offs k A P Q c l) (t : Off (4 * length l + 3) 0 (exact_sum 0 l) (2 ^ 149)) where
  pub close_entry : (i : ℕ) → i < length l → Close 2048 (val32 (get_or l i nan)) (c i) (sum_below (length l) c)
  close_entry i h =
      unscaled k (4 * length l + 3) (length l) A P Q (val32 (get_or l i nan)) (c i) (exact_sum 0 l) (sum_below (length l) c) (2 ^ 149) p q small few units
      (sum_has (length l) c i h) (offs_at k A P Q c l i o h) (offs_total k A P Q c l o) t

-- ---- raised to c
raised : (X Y C N D U : ℕ) → X ≤ Y → Y ≤ X + C → 2048 * C ≤ U → WithinShare 2048 (X * D) (N * U) (D * U) → WithinShare 1024 (Y * D) (N * U) (D * U)
raised X Y C N D U h g r o = omega (arith, mul-le-mul_right D h, mul-le-mul_right D g, mul-le-mul_right D r)

lifts : (x : Float) → AtMost 1 x → (val32 x ≤ val32 (avoid_underflow x)) × (val32 (avoid_underflow x) ≤ val32 x + val32 c)
unfolding avoid_underflow
lifts x n = go (lt x c) (λ (h : T (lt x c)). le→units x c n.held (unfold fits in tt) n.clear_sign tt (at_most-finite 1 x (lit≤ tt) n) tt (lt→le x c h))
  where
    go : (b : Bool) → (T b → val32 x ≤ val32 c) → (val32 x ≤ val32 (cond b c x)) × (val32 (cond b c x) ≤ val32 x + val32 c)
    go true h = (h tt, le-add_left (val32 c) (val32 x))
    go false h = (le_of_eq refl, le-add_right (val32 x) (val32 c))

pub close_raised : (x : Float) (N D : ℕ) → AtMost 1 x → Close 2048 (val32 x) N D → Close 1024 (val32 (avoid_underflow x)) N D
close_raised x N D n o = let r = lifts x n in raised (val32 x) (val32 (avoid_underflow x)) (val32 c) N D (2 ^ 149) r.0 r.1 (lit≤ tt) o
