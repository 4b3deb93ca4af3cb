-- Each operation on finite values as a signed fraction, rounded once (`Rounded.Is`).
use Rattle.std.specs.Prelude.{◌≡◌, ◌⊎◌, ℕ, zero, suc, ◌+◌, ◌-◌, ◌*◌, ◌≤◌, ◌<◌, Bool, true, false, not, cond, ℤ, pos, T, ltb, Float}
use Rattle.std.proofs.Math.Path.{refl}
use Rattle.std.proofs.Common.{sym, ap, ◌∙◌, inl, inr, mul_comm, mul-pos, zero-mul, zero-lt-suc, arith, ltb→lt, nltb→le}
use Rattle.std.proofs.Math.Nat.{sub_self}
use Rattle.std.proofs.Math.Dec.{eqb-suc-zero}
use Rattle.std.specs.Float.{nan, inf, fin, Format, binary32}
use Rattle.std.specs.Float.Ieee.{up, down, round, unlike, sum, add, sub, mul, div}
use Rattle.std.specs.Float.Ieee.Fits.{up_pos, down_pos}
use Rattle.std.specs.Float.Ieee.Scale.{finite, round_same}
use Rattle.std.specs.Float.Ieee.Positive.{den, positive}
use Rattle.float_laws.specs.Order.{plus, minus}
use Rattle.float_laws.specs.Rounded.{Is}

-- ---- the sum
sum_pp : (f : Format) (a b c x y : ℕ) → 0 < c → Is f (sum f false a false b c) (a + b) (0 * x + 0 * y) c
unfolding sum
sum_pp f a b c x y C = (C, inl (a + b, omega arith, refl))

sum_mm : (f : Format) (a b c x y : ℕ) → 0 < c → Is f (sum f true a true b c) (0 * x + 0 * y) (a + b) c
unfolding sum
sum_mm f a b c x y C = (C, inr (a + b, omega arith, refl))

sum_pm : (f : Format) (a b c x y : ℕ) → 0 < c → Is f (sum f false a true b c) (a + 0 * x) (0 * y + b) c
unfolding sum
sum_pm f a b c x y C = (C, go (ltb a b) (ltb→lt a b) (nltb→le a b))
  where
    go : (t : Bool) → (T t → a < b) → (T (not t) → b ≤ a)
        → ((m : ℕ) × (a + 0 * x ≡ 0 * y + b + m) × (cond t (round f true (b - a) c) (round f false (a - b) c) ≡ round f false m c))
        ⊎ ((m : ℕ) × (0 * y + b ≡ a + 0 * x + m) × (cond t (round f true (b - a) c) (round f false (a - b) c) ≡ round f true m c))
    go true h k = let g = h tt in inr (b - a, omega arith, refl)
    go false h k = let g = k tt in inl (a - b, omega arith, refl)

sum_mp : (f : Format) (a b c x y : ℕ) → 0 < c → Is f (sum f true a false b c) (0 * x + b) (a + 0 * y) c
unfolding sum
sum_mp f a b c x y C = (C, go (ltb a b) (ltb b a) (ltb→lt a b) (nltb→le a b) (nltb→le b a))
  where
    go : (t u : Bool) → (T t → a < b) → (T (not t) → b ≤ a) → (T (not u) → a ≤ b)
        → ((m : ℕ) × (0 * x + b ≡ a + 0 * y + m) × (cond t (round f false (b - a) c) (round f u (a - b) c) ≡ round f false m c))
        ⊎ ((m : ℕ) × (a + 0 * y ≡ 0 * x + b + m) × (cond t (round f false (b - a) c) (round f u (a - b) c) ≡ round f true m c))
    go true u h k l = let g = h tt in inl (b - a, omega arith, refl)
    go false true h k l = let g = k tt in inr (a - b, omega arith, refl)
    go false false h k l =
        let g = k tt in
        let g' = l tt in
        inl (a - b, omega arith, refl)

pub add_is : (f : Format) (x y : Float) → T (finite x) → T (finite y) → Is f (add f x y) (plus x * den y + plus y * den x) (minus x * den y + minus y * den x) (den x * den y)
unfolding add
add_is f nan y p q = absurd p
add_is f (inf s) y p q = absurd p
add_is f (fin s m e) nan p q = absurd q
add_is f (fin s m e) (inf t) p q = absurd q
add_is f (fin false m e) (fin false n d) p q = sum_pp f (m * up e * down d) (n * up d * down e) (down e * down d) (down d) (down e) (mul-pos (down_pos e) (down_pos d))
add_is f (fin true m e) (fin true n d) p q = sum_mm f (m * up e * down d) (n * up d * down e) (down e * down d) (down d) (down e) (mul-pos (down_pos e) (down_pos d))
add_is f (fin false m e) (fin true n d) p q = sum_pm f (m * up e * down d) (n * up d * down e) (down e * down d) (down e) (down d) (mul-pos (down_pos e) (down_pos d))
add_is f (fin true m e) (fin false n d) p q = sum_mp f (m * up e * down d) (n * up d * down e) (down e * down d) (down d) (down e) (mul-pos (down_pos e) (down_pos d))

pub sub_is : (f : Format) (x y : Float) → T (finite x) → T (finite y) → Is f (sub f x y) (plus x * den y + minus y * den x) (minus x * den y + plus y * den x) (den x * den y)
unfolding sub
sub_is f x nan p q = absurd q
sub_is f x (inf s) p q = absurd q
sub_is f x (fin false n d) p q = add_is f x (fin true n d) p tt
sub_is f x (fin true n d) p q = add_is f x (fin false n d) p tt

-- ---- the product
mul_pp : (f : Format) (a b c : ℕ) → 0 < c → Is f (round f false (a * b) c) (a * b + 0 * 0) (a * 0 + 0 * b) c
mul_pp f a b c C = (C, inl (a * b, omega arith, refl))

mul_mm : (f : Format) (a b c : ℕ) → 0 < c → Is f (round f false (a * b) c) (0 * 0 + a * b) (0 * b + a * 0) c
mul_mm f a b c C = (C, inl (a * b, omega arith, refl))

mul_pm : (f : Format) (a b c : ℕ) → 0 < c → Is f (round f true (a * b) c) (a * 0 + 0 * b) (a * b + 0 * 0) c
mul_pm f a b c C = (C, inr (a * b, omega arith, refl))

mul_mp : (f : Format) (a b c : ℕ) → 0 < c → Is f (round f true (a * b) c) (0 * b + a * 0) (0 * 0 + a * b) c
mul_mp f a b c C = (C, inr (a * b, omega arith, refl))

pub mul_is : (f : Format) (x y : Float) → T (finite x) → T (finite y)
    → Is f (mul f x y) (plus x * plus y + minus x * minus y) (plus x * minus y + minus x * plus y) (den x * den y)
unfolding mul
mul_is f nan y p q = absurd p
mul_is f (inf s) y p q = absurd p
mul_is f (fin s m e) nan p q = absurd q
mul_is f (fin s m e) (inf t) p q = absurd q
mul_is f (fin false m e) (fin false n d) p q = mul_pp f (m * up e) (n * up d) (down e * down d) (mul-pos (down_pos e) (down_pos d))
mul_is f (fin true m e) (fin true n d) p q = mul_mm f (m * up e) (n * up d) (down e * down d) (mul-pos (down_pos e) (down_pos d))
mul_is f (fin false m e) (fin true n d) p q = mul_pm f (m * up e) (n * up d) (down e * down d) (mul-pos (down_pos e) (down_pos d))
mul_is f (fin true m e) (fin false n d) p q = mul_mp f (m * up e) (n * up d) (down e * down d) (mul-pos (down_pos e) (down_pos d))

pub mul_comm_at : (f : Format) (x y : Float) → mul f x y ≡ mul f y x
unfolding mul
mul_comm_at f nan nan = refl
mul_comm_at f nan (inf t) = refl
mul_comm_at f nan (fin t n d) = refl
mul_comm_at f (inf s) nan = refl
mul_comm_at f (inf true) (inf true) = refl
mul_comm_at f (inf true) (inf false) = refl
mul_comm_at f (inf false) (inf true) = refl
mul_comm_at f (inf false) (inf false) = refl
mul_comm_at f (inf true) (fin true n d) = refl
mul_comm_at f (inf true) (fin false n d) = refl
mul_comm_at f (inf false) (fin true n d) = refl
mul_comm_at f (inf false) (fin false n d) = refl
mul_comm_at f (fin s m e) nan = refl
mul_comm_at f (fin true m e) (inf true) = refl
mul_comm_at f (fin true m e) (inf false) = refl
mul_comm_at f (fin false m e) (inf true) = refl
mul_comm_at f (fin false m e) (inf false) = refl
mul_comm_at f (fin true m e) (fin true n d) = rw (mul_comm (m * up e) (n * up d), mul_comm (down e) (down d))
mul_comm_at f (fin true m e) (fin false n d) = rw (mul_comm (m * up e) (n * up d), mul_comm (down e) (down d))
mul_comm_at f (fin false m e) (fin true n d) = rw (mul_comm (m * up e) (n * up d), mul_comm (down e) (down d))
mul_comm_at f (fin false m e) (fin false n d) = rw (mul_comm (m * up e) (n * up d), mul_comm (down e) (down d))

-- ---- the quotient by a value above zero
pub div-at : (f : Format) (s : Bool) (m : ℕ) (e : ℤ) (n : ℕ) (d : ℤ) → div f (fin s m e) (fin false (suc n) d) ≡ round f (unlike s false) (m * up e * down d) (suc n * up d * down e)
unfolding div
div-at f s m e n d = rw (eqb-suc-zero n)

pub div_is : (f : Format) (x y : Float) → T (finite x) → T (positive y) → Is f (div f x y) (plus x * den y) (minus x * den y) (plus y * den x)
div_is f nan y p q = absurd p
div_is f (inf s) y p q = absurd p
div_is f (fin s m e) nan p q = absurd q
div_is f (fin s m e) (inf t) p q = absurd q
div_is f (fin s m e) (fin true n d) p q = absurd q
div_is f (fin s m e) (fin false zero d) p q = absurd q
div_is f (fin false m e) (fin false (suc n) d) p q = (mul-pos (mul-pos (zero-lt-suc n) (up_pos d)) (down_pos e), inl (m * up e * down d, omega arith, div-at f false m e n d))
div_is f (fin true m e) (fin false (suc n) d) p q = (mul-pos (mul-pos (zero-lt-suc n) (up_pos d)) (down_pos e), inr (m * up e * down d, omega arith, div-at f true m e n d))

-- ---- x - x is +0
round-zero : (c : ℕ) → 0 < c → round binary32 false 0 c ≡ fin false 0 (pos 0)
round-zero c C = round_same binary32 false 0 c 0 1 C (zero-lt-suc 0) (sym (zero-mul c)) ∙ at_one
  where
    at_one : round binary32 false 0 1 ≡ fin false 0 (pos 0)
    at_one = unfold round in refl

same_sum : (s : Bool) (a c : ℕ) → 0 < c → sum binary32 s a (not s) a c ≡ fin false 0 (pos 0)
unfolding sum
same_sum false a c C = go (ltb a a) (ltb→lt a a)
  where
    none : (n : ℕ) → n < n → ⊥
    none n h = omega arith

    go : (t : Bool) → (T t → a < a) → cond t (round binary32 true (a - a) c) (round binary32 false (a - a) c) ≡ fin false 0 (pos 0)
    go true h = absurd (none a (h tt))
    go false h = ap (λ (n : ℕ). round binary32 false n c) (sub_self a) ∙ round-zero c C
same_sum true a c C = go (ltb a a) (ltb→lt a a)
  where
    none : (n : ℕ) → n < n → ⊥
    none n h = omega arith

    go : (t : Bool) → (T t → a < a) → cond t (round binary32 false (a - a) c) (round binary32 t (a - a) c) ≡ fin false 0 (pos 0)
    go true h = absurd (none a (h tt))
    go false h = ap (λ (n : ℕ). round binary32 false n c) (sub_self a) ∙ round-zero c C

pub sub_same : (x : Float) → T (finite x) → sub binary32 x x ≡ fin false 0 (pos 0)
unfolding sub
sub_same nan p = absurd p
sub_same (inf s) p = absurd p
sub_same (fin s m e) p = same_sum s (m * up e * down e) (down e * down e) (mul-pos (down_pos e) (down_pos e))
