-- Whole numbers beyond 2 ^ 24: a multiple of 2 ^ j is a float as long as it has few digits, and the sum of two such floats is the sum, rounded once.
use Rattle.std.specs.Prelude.{◌≡◌, ℕ, suc, ◌+◌, ◌*◌, ◌^◌, ◌≤◌, ◌<◌, T, pos, Float}
use Rattle.std.proofs.Math.Path.{sym, ap}
use Rattle.std.proofs.Common.{◌∙◌, subst, add-mul, mul-one, mul_assoc, mul_right_comm, lt_of_lt_of_le, zero-lt-suc, arith, pow-add, pow_pos, pow_mono, shl_lt}
use Rattle.std.proofs.Math.Bool.{false}
use Rattle.std.specs.Float.{nan, inf, fin, Format}
use Rattle.std.specs.Float.Ieee.{binary32, prec, emax, low, up, down, round, add, le, of_int}
use Rattle.std.specs.Float.Ieee.Fits.{of_int-fits}
use Rattle.std.specs.Float.Ieee.Exact.{HasValue, round_exact}
use Rattle.std.specs.Float.Ieee.Order.{round_mono}
use Rattle.std.specs.Float.Ieee.Scale.{finite, round_same}
use Rattle.float_laws.specs.Order.{finite-between}
use Rattle.float_laws.specs.Rounded.{clear, round-clear}
use Rattle.float_laws.specs.Laws.{zeroᶠ, add_mono}
use Rattle.float_laws.specs.Interval.{In}
use Rattle.float_laws.specs.Sums.{of_nat}
use Rattle.float_laws.specs.Error.{val32, value_units, add-units}

-- ---- k * 2 ^ j, with k of at most prec digits
pub multiple_val : (f : Format) (j k : ℕ) → prec f + j ≤ suc (emax f) → k < 2 ^ prec f → HasValue (round f false (k * 2 ^ j) 1) false (k * 2 ^ j) 1
multiple_val f j k h g =
    round_exact f false (k * 2 ^ j) 1 k (j + low f) (zero-lt-suc 0) g (lt_of_lt_of_le (shl_lt (prec f) (j + low f) g) (pow_mono (room (prec f) (emax f) (low f) h)))
    (mul_assoc k (2 ^ j) (2 ^ low f) ∙ ap (λ (z : ℕ). k * z) (sym (pow-add 2 j (low f))) ∙ sym (mul-one (k * 2 ^ (j + low f))))
  where
    room : (p e l : ℕ) → p + j ≤ suc e → p + (j + l) ≤ l + suc e
    room p e l h = omega arith

-- the float of n is n itself
abbrev pub Exact : ℕ → Type 0
Exact n = HasValue (of_nat n) false n 1

pub exact_multiple : (j k : ℕ) → j ≤ 104 → k < 2 ^ 24 → Exact (k * 2 ^ j)
unfolding of_int
exact_multiple j k h g = multiple_val binary32 j k (omega arith) g

exact-finite : (x : Float) (a : ℕ) → HasValue x false a 1 → T (finite x)
exact-finite nan a h = absurd h
exact-finite (inf s) a h = absurd h
exact-finite (fin s m e) a h = tt

-- ---- the sum of two
scaled : (x : Float) (a c : ℕ) → HasValue x false a 1 → HasValue x false (a * c) c
scaled nan a c h = absurd h
scaled (inf s) a c h = absurd h
scaled (fin s m e) a c h = (h.0, ap (λ (z : ℕ). z * c) (sym (mul-one (m * up e)) ∙ h.1) ∙ mul_right_comm a (down e) c)

whole-clear : (n : ℕ) → T (clear (of_nat n))
unfolding of_int
whole-clear n = round-clear binary32 n 1

pub exact-sum : (m n : ℕ) → Exact m → Exact n → add binary32 (of_nat m) (of_nat n) ≡ of_nat (m + n)
exact-sum m n h k =
    let u = of_nat m in
    let w = of_nat n in
    add-units u w (of_int-fits binary32 (pos m)) (of_int-fits binary32 (pos n)) (whole-clear m) (whole-clear n) (exact-finite u m h) (exact-finite w n k)
    ∙ (unfold of_int in round_same binary32 false (val32 u + val32 w) (2 ^ 149) (m + n) 1 (pow_pos 149) (zero-lt-suc 0)
    (mul-one (val32 u + val32 w) ∙ both (val32 u) (val32 w) (2 ^ 149) (value_units u false (m * 2 ^ 149) (scaled u m (2 ^ 149) h)) (value_units w false (n * 2 ^ 149) (scaled w n (2 ^ 149) k))))
  where
    both : (a b U : ℕ) → a ≡ m * U → b ≡ n * U → a + b ≡ (m + n) * U
    both a b U p q = ap (λ (z : ℕ). z + b) p ∙ ap (λ (z : ℕ). m * U + z) q ∙ sym (add-mul m n U)

-- ---- bounds
pub whole_rises : (m n : ℕ) → m ≤ n → T (le (of_nat m) (of_nat n))
unfolding of_int
whole_rises m n h = round_mono binary32 m 1 n 1 (zero-lt-suc 0) (zero-lt-suc 0) (omega arith)

pub sum_under : (m n : ℕ) (a x : Float) → Exact m → Exact n → In zeroᶠ (of_nat m) a → In zeroᶠ (of_nat n) x → T (le (add binary32 a x) (of_nat (m + n)))
sum_under m n a x h k i j =
    let u = exact-finite (of_nat m) m h in
    let w = exact-finite (of_nat n) n k in
    subst (λ (z : Float). T (le (add binary32 a x) z)) (exact-sum m n h k)
    (add_mono a (of_nat m) x (of_nat n) (finite-between zeroᶠ a (of_nat m) tt u i.low i.high) u (finite-between zeroᶠ x (of_nat n) tt w j.low j.high) w i.high j.high)
