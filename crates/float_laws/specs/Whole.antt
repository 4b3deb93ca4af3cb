-- A whole number divided by a whole number is the rounded ratio of the two. A whole number of up to 2 ^ 24 over a power of two is not rounded, and
-- a product of fractions that are values is the rounded product of the fractions.
use Rattle.std.specs.Prelude.{◌≡◌, ◌⊎◌, true, false, ℕ, zero, suc, ◌+◌, ◌-◌, ◌*◌, ◌^◌, ◌≤◌, ◌<◌, pos, Float}
use Rattle.std.proofs.Common.{sym, ap, ◌∙◌, inl, inr, true≢false, eq-or-lt_of_le, lt_of_lt_of_le, mul-one, mul_comm, mul_assoc, mul_left_comm, zero-mul, suc-mul, mul-pos, zero-lt-suc, arith, lit≤, lit<, pow-add, pow_pos, pow_mono, shl_lt}
use Rattle.std.proofs.Math.Nat.{mul-mul-mul_comm}
use Rattle.std.specs.Float.{nan, inf, fin, binary32}
use Rattle.std.specs.Float.Ieee.{up, down, round, mul, div, of_int}
use Rattle.std.specs.Float.Ieee.Fits.{up_pos, down_pos}
use Rattle.std.specs.Float.Ieee.Exact.{HasValue, round_exact}
use Rattle.std.specs.Float.Ieee.Back.{round_whole}
use Rattle.std.specs.Float.Ieee.Scale.{round_same}
use Rattle.definition.specs.Floats.{◌⊗◌, ratio}
use Rattle.float_laws.specs.Ops.{div-at}

cross : (a b c d n k : ℕ) → a * 1 ≡ n * c → b * 1 ≡ k * d → a * d * k ≡ n * (b * c)
cross a b c d n k e f =
    let p : a ≡ n * c = sym (mul-one a) ∙ e in
    let q : b ≡ k * d = sym (mul-one b) ∙ f in
    rw (p, q) (swap c d n k)
  where
    swap : (c d n k : ℕ) → n * c * d * k ≡ n * (k * d * c)
    swap c d n k = simp (mul_assoc, mul_comm, mul_left_comm)

none : (k u d : ℕ) → 0 < d → 0 * u * 1 ≡ suc k * d → ⊥
none k u d D e = let l : 0 * u ≡ 0 = zero-mul u in let r : suc k * d ≡ k * d + d = suc-mul k d in omega (arith, mul-one (0 * u))

values_over : (x s : Float) (n k : ℕ) → HasValue x false n 1 → HasValue s false (suc k) 1 → div binary32 x s ≡ round binary32 false n (suc k)
values_over nan s n k h g = absurd h
values_over (inf t) s n k h g = absurd h
values_over (fin true m e) s n k h g = absurd (true≢false h.0)
values_over (fin false m e) nan n k h g = absurd g
values_over (fin false m e) (inf t) n k h g = absurd g
values_over (fin false m e) (fin true p d) n k h g = absurd (true≢false g.0)
values_over (fin false m e) (fin false zero d) n k h g = absurd (none k (up d) (down d) (down_pos d) g.1)
values_over (fin false m e) (fin false (suc p) d) n k h g =
    div-at binary32 false m e p d
    ∙ round_same binary32 false (m * up e * down d) (suc p * up d * down e) n (suc k) (mul-pos (mul-pos (zero-lt-suc p) (up_pos d)) (down_pos e)) (zero-lt-suc k)
    (cross (m * up e) (suc p * up d) (down e) (down d) n (suc k) h.1 g.1)

pub whole-over : (n k : ℕ) → n ≤ 2 ^ 24 → suc k ≤ 2 ^ 24 → div binary32 (of_int binary32 (pos n)) (of_int binary32 (pos (suc k))) ≡ round binary32 false n (suc k)
unfolding of_int
whole-over n k h g = values_over (round binary32 false n 1) (round binary32 false (suc k) 1) n k (round_whole binary32 false n h) (round_whole binary32 false (suc k) g)

-- ---- fractions

pub values_times :
    (x y : Float) (a b c d : ℕ) → 0 < b → 0 < d → HasValue x false a b → HasValue y false c d → mul binary32 x y ≡ round binary32 false (a * c) (b * d)
unfolding mul
values_times nan y a b c d B D h g = absurd h
values_times (inf t) y a b c d B D h g = absurd h
values_times (fin true m e) y a b c d B D h g = absurd (true≢false h.0)
values_times (fin false m e) nan a b c d B D h g = absurd g
values_times (fin false m e) (inf t) a b c d B D h g = absurd g
values_times (fin false m e) (fin true n k) a b c d B D h g = absurd (true≢false g.0)
values_times (fin false m e) (fin false n k) a b c d B D h g =
    round_same binary32 false (m * up e * (n * up k)) (down e * down k) (a * c) (b * d) (mul-pos (down_pos e) (down_pos k)) (mul-pos B D)
    (mul-mul-mul_comm (m * up e) (n * up k) b d ∙ (λ i. h.1 i * g.1 i) ∙ mul-mul-mul_comm a (down e) c (down k))

-- n = q * 2 ^ i over 2 ^ j, of which binary32 keeps all of q
kept-exact : (q i j n : ℕ) → n ≡ q * 2 ^ i → q < 2 ^ 24 → i ≤ 1 → j ≤ 24 → HasValue (round binary32 false n (2 ^ j)) false n (2 ^ j)
kept-exact q i j n e s l k =
    round_exact binary32 false n (2 ^ j) q (i + (149 - j)) (pow_pos j) s (lt_of_lt_of_le (shl_lt 24 (i + (149 - j)) s) (pow_mono {j = 277} (omega arith)))
    (ap (λ (x : ℕ). x * 2 ^ 149) e ∙ mul_assoc q (2 ^ i) (2 ^ 149) ∙ ap (λ (x : ℕ). q * x) powers ∙ sym (mul_assoc q (2 ^ (i + (149 - j))) (2 ^ j)))
  where
    back : i + 149 ≡ i + (149 - j) + j
    back = omega arith

    powers : 2 ^ i * 2 ^ 149 ≡ 2 ^ (i + (149 - j)) * 2 ^ j
    powers = sym (pow-add 2 i 149) ∙ ap (λ (x : ℕ). 2 ^ x) back ∙ pow-add 2 (i + (149 - j)) j

pub power_exact : (n j : ℕ) → n ≤ 2 ^ 24 → j ≤ 24 → HasValue (round binary32 false n (2 ^ j)) false n (2 ^ j)
power_exact n j h k = go (eq-or-lt_of_le h)
  where
    go : (n ≡ 2 ^ 24) ⊎ (n < 2 ^ 24) → HasValue (round binary32 false n (2 ^ j)) false n (2 ^ j)
    go (inl e) = kept-exact (2 ^ 23) 1 j n e (lit< tt) (lit≤ tt) k
    go (inr l) = kept-exact n 0 j n (sym (mul-one n)) l (lit≤ tt) k

pub ratios_times : (n m i j : ℕ) → n ≤ 2 ^ 24 → m ≤ 2 ^ 24 → i ≤ 24 → j ≤ 24 → ratio n (2 ^ i) ⊗ ratio m (2 ^ j) ≡ ratio (n * m) (2 ^ i * 2 ^ j)
ratios_times n m i j h g k l =
    values_times (ratio n (2 ^ i)) (ratio m (2 ^ j)) n (2 ^ i) m (2 ^ j) (pow_pos i) (pow_pos j) (power_exact n i h k) (power_exact m j g l)
