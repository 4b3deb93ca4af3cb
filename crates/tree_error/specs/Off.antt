-- `Off k a v e`: v is within k parts in 2 ^ 24 of e, and a more. How such errors add up over sums, products and one after the other.
use Rattle.std.specs.Prelude.{◌≡◌, refl, ℕ, ◌+◌, ◌*◌, ◌^◌, ◌≤◌}
use Rattle.std.proofs.Common.{le_of_eq, mul_comm, mul-le-mul_left, mul-le-mul_right, arith}

pub record Off (k a v e : ℕ) : Type 0 where
  pub over : v * 2 ^ 24 ≤ e * 2 ^ 24 + e * k + a * 2 ^ 24
  pub under : e * 2 ^ 24 ≤ v * 2 ^ 24 + e * k + a * 2 ^ 24

pub off-more : (k j a b v e : ℕ) → k ≤ j → a ≤ b → Off k a v e → Off j b v e
off-more k j a b v e h g o = omega (arith, mul-le-mul_left e h)

pub off-none : {k a v e : ℕ} → v ≡ 0 → e ≡ 0 → Off k a v e
off-none {k} {a} {v} {e} p q = omega (arith, mul-le-mul_left k (let z : e ≤ 0 = omega arith in z))

-- a value, rounded
pub off_rounded : (v e u : ℕ) → v * 2 ^ 24 ≤ e * 2 ^ 24 + e + u * 2 ^ 23 → e * 2 ^ 24 ≤ v * 2 ^ 24 + e + u * 2 ^ 23 → Off 1 u v e
off_rounded v e u h k = omega arith

-- both grown by c
pub off-scale : {k a v e : ℕ} (c : ℕ) → Off k a v e → Off k (a * c) (v * c) (e * c)
off-scale c o = omega (arith, mul-le-mul_right c o.over, mul-le-mul_right c o.under)

-- two sums, each side with a common factor
pub off_join : (k a b v w e f P Q R : ℕ) → Off k (a * Q) (v * R) (e * P) → Off k (b * Q) (w * R) (f * P) → Off k ((a + b) * Q) ((v + w) * R) ((e + f) * P)
off_join k a b v w e f P Q R o q = omega arith

-- one after the other: v is off e, and w off v
pub off_trans : {k j l a b c v w e : ℕ} → Off k a v e → Off j b w v → k ≤ 4096 → j ≤ 4096 → k + j + 1 ≤ l → 4097 * a + 4096 * b ≤ 4096 * c → Off l c w e
off_trans {k} {j} {l} {a} {b} {c} {v} {w} {e} o q h g m r =
    let s : e * k * j ≤ e * 2 ^ 24 = omega (arith, mul-le-mul_right j (mul-le-mul_left e h), mul-le-mul_left e g) in
    let t : v * j ≤ e * j + e + a * 4096 = omega (arith, mul-le-mul_right j o.over, mul-le-mul_left a g) in
    omega (arith, mul-le-mul_left e m)

-- the product of two
pub off_times : {k j a b v w e f : ℕ} → Off k a v e → Off j b w f → k ≤ 4096 → j ≤ 4096 → Off (k + j + 1) (2 * (a * (w + b) + b * (v + a))) (v * w) (e * f)
off_times {k} {j} {a} {b} {v} {w} {e} {f} o q h g =
    let m : f * 4095 ≤ (w + b) * 4096 = omega (arith, mul-le-mul_left f g) in
    let s : Off j (b * v) (v * w) (v * f) = rw (mul_comm v w, mul_comm v f) (off-scale v q) in
    off_trans (off-scale f o) s h g (le_of_eq refl) (omega (arith, mul-le-mul_right a m))

-- where what is off beside the parts is itself a small part of v
pub off_part : (k a v e : ℕ) → k ≤ 4096 → 65536 * a ≤ v → Off k a v e → Off (k + 260) 0 v e
off_part k a v e h g o = omega (arith, mul-le-mul_left e h)

pub off_fine : (k a v e : ℕ) → k ≤ 4096 → 524288 * a ≤ v → Off k a v e → Off (k + 36) 0 v e
off_fine k a v e h g o = omega (arith, mul-le-mul_left e h)
