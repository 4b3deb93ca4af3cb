-- The end of a vector that is exactly zero: a convolution and its normalising keep it.
use Rattle.std.specs.Prelude.{◌≡◌, List, [], ◌∷◌, map, ℕ, zero, suc, ◌+◌, ◌*◌, ◌^◌, ◌≤◌, ◌<◌, T, take, replicate, Float}
use Rattle.std.proofs.Math.Path.{refl, ap}
use Rattle.std.proofs.Common.{sym, ◌∙◌, zero-mul, add-zero, mul-pos, zero-lt-suc, arith, lit≤, pow_pos}
use Rattle.std.proofs.Math.Bool.{false}
use Rattle.std.specs.Float.Ieee.{binary32, round, add, fits}
use Rattle.std.specs.Float.Ieee.Scale.{round_same}
use Rattle.std.specs.Float.Ieee.Positive.{positive}
use Rattle.float_laws.specs.Ops.{mul_comm_at}
use Rattle.float_laws.specs.Error.{val32, exact_sum}
use Rattle.float_laws.specs.Totals.{AtMost, AllAtMost, at_most-finite, div-units, val_pos}
use Rattle.float_laws.specs.Products.{mul-units}
use Rattle.definition.specs.Floats.{◌⊕◌, ◌⊗◌, ◌⊘◌, zeroᶠ}
use Rattle.graph_laws.specs.Convolution.{add_products, add_all_products}

-- ---- zero times, over and plus
round-zero : (c : ℕ) → 0 < c → round binary32 false 0 c ≡ zeroᶠ
round-zero c C = round_same binary32 false 0 c 0 1 C (zero-lt-suc 0) (sym (zero-mul c)) ∙ at_one
  where
    at_one : round binary32 false 0 1 ≡ zeroᶠ
    at_one = unfold round in refl

pub zero_times : (y : Float) → AtMost 1 y → zeroᶠ ⊗ y ≡ zeroᶠ
zero_times y n =
    mul-units zeroᶠ y (unfold fits in tt) n.held tt n.clear_sign tt (at_most-finite 1 y (lit≤ tt) n)
    ∙ ap (λ (z : ℕ). round binary32 false z (2 ^ 149 * 2 ^ 149)) (zero-mul (val32 y))
    ∙ round-zero (2 ^ 149 * 2 ^ 149) (mul-pos (pow_pos 149) (pow_pos 149))

pub times_zero : (x : Float) → AtMost 1 x → x ⊗ zeroᶠ ≡ zeroᶠ
times_zero x n = mul_comm_at binary32 x zeroᶠ ∙ zero_times x n

pub zero-share : (s : Float) → T (fits binary32 s) → T (positive s) → zeroᶠ ⊘ s ≡ zeroᶠ
zero-share s u q = div-units zeroᶠ s (unfold fits in tt) u tt tt q ∙ round-zero (val32 s) (val_pos s u q)

zero-plus : zeroᶠ ⊕ zeroᶠ ≡ zeroᶠ
zero-plus = unfold add round in refl

-- ---- from entry m on there are zeros
abbrev pub Zeros : ℕ → List Float → Type 0
Zeros m [] = Unit {0}
Zeros zero (x ∷ l) = (x ≡ zeroᶠ) × Zeros zero l
Zeros (suc m) (x ∷ l) = Zeros m l

pub zeros-all : (m n : ℕ) → Zeros m (replicate n zeroᶠ)
zeros-all m zero = tt
zeros-all zero (suc n) = (refl, zeros-all zero n)
zeros-all (suc m) (suc n) = zeros-all m n

-- ---- a row of zeros
zero-entry : (r x y : Float) → r ≡ zeroᶠ → x ⊗ y ≡ zeroᶠ → r ⊕ x ⊗ y ≡ zeroᶠ
zero-entry r x y p q = ap (λ (z : Float). z ⊕ x ⊗ y) p ∙ ap (λ (z : Float). zeroᶠ ⊕ z) q ∙ zero-plus

zero_row : (i R : ℕ) (x : Float) (b l : List Float) → x ≡ zeroᶠ → AllAtMost 1 b → Zeros R l → Zeros R (add_products i x b l)
unfolding add_products
zero_row (suc i) R x b [] e n z = tt
zero_row (suc i) zero x b (r ∷ l) e n z = (z.0, zero_row i zero x b l e n z.1)
zero_row (suc i) (suc R) x b (r ∷ l) e n z = zero_row i R x b l e n z
zero_row zero R x [] l e n z = z
zero_row zero R x (y ∷ b) [] e n z = tt
zero_row zero zero x (y ∷ b) (r ∷ l) e n z = (zero-entry r x y z.0 (ap (λ (w : Float). w ⊗ y) e ∙ zero_times y n.0), zero_row zero zero x b l e n.1 z.1)
zero_row zero (suc R) x (y ∷ b) (r ∷ l) e n z = zero_row zero R x b l e n.1 z

-- ---- a row that ends early
live_row : (i m R : ℕ) (x : Float) (b l : List Float) → AtMost 1 x → AllAtMost 1 b → Zeros m b → i + m ≤ R → Zeros R l → Zeros R (add_products i x b l)
unfolding add_products
live_row (suc i) m R x b [] n k w h z = tt
live_row (suc i) m zero x b (r ∷ l) n k w h z = absurd (let o : ⊥ = omega arith in o)
live_row (suc i) m (suc R) x b (r ∷ l) n k w h z = live_row i m R x b l n k w (omega arith) z
live_row zero m R x [] l n k w h z = z
live_row zero m R x (y ∷ b) [] n k w h z = tt
live_row zero zero zero x (y ∷ b) (r ∷ l) n k w h z = (zero-entry r x y z.0 (ap (λ (v : Float). x ⊗ v) w.0 ∙ times_zero x n), live_row zero zero zero x b l n k.1 w.1 h z.1)
live_row zero zero (suc R) x (y ∷ b) (r ∷ l) n k w h z = live_row zero zero R x b l n k.1 w.1 (omega arith) z
live_row zero (suc m) zero x (y ∷ b) (r ∷ l) n k w h z = absurd (let o : ⊥ = omega arith in o)
live_row zero (suc m) (suc R) x (y ∷ b) (r ∷ l) n k w h z = live_row zero m R x b l n k.1 w (omega arith) z

-- ---- the rows together
zero-rows : (i R : ℕ) (a b l : List Float) → Zeros zero a → AllAtMost 1 b → Zeros R l → Zeros R (add_all_products i a b l)
unfolding add_all_products
zero-rows i R [] b l e n z = z
zero-rows i R (x ∷ a) b l e n z = zero-rows (suc i) R a b (add_products i x b l) e.1 n (zero_row i R x b l e.0 n z)

pub live_rows : (i m k R : ℕ) (a b l : List Float) → AllAtMost 1 a → AllAtMost 1 b → Zeros m a → Zeros k b → i + m + k ≤ suc R → Zeros R l → Zeros R (add_all_products i a b l)
unfolding add_all_products
live_rows i m k R [] b l n p e f h z = z
live_rows i zero k R (x ∷ a) b l n p e f h z = zero-rows (suc i) R a b (add_products i x b l) e.1 p (zero_row i R x b l e.0 p z)
live_rows i (suc m) k R (x ∷ a) b l n p e f h z = live_rows (suc i) m k R a b (add_products i x b l) n.1 p e f (omega arith) (live_row i k R x b l n.0 p f (omega arith) z)

-- ---- divided
pub zeros-share : (m : ℕ) (s : Float) (l : List Float) → T (fits binary32 s) → T (positive s) → Zeros m l → Zeros m (map (λ (x : Float). x ⊘ s) l)
zeros-share m s [] u q z = tt
zeros-share zero s (x ∷ l) u q z = (ap (λ (y : Float). y ⊘ s) z.0 ∙ zero-share s u q, zeros-share zero s l u q z.1)
zeros-share (suc m) s (x ∷ l) u q z = zeros-share m s l u q z

-- ---- what is beyond the end does not count
nothing-more : (A : ℕ) (l : List Float) → Zeros zero l → exact_sum A l ≡ A
nothing-more A [] z = refl
nothing-more A (x ∷ l) z = ap (λ (y : Float). exact_sum (A + val32 y) l) z.0 ∙ ap (λ (n : ℕ). exact_sum n l) (add-zero A) ∙ nothing-more A l z.1

pub exact_live : (A m : ℕ) (l : List Float) → Zeros m l → exact_sum A (take m l) ≡ exact_sum A l
exact_live A zero l z = sym (nothing-more A l z)
exact_live A (suc m) [] z = refl
exact_live A (suc m) (x ∷ l) z = exact_live (A + val32 x) m l z
