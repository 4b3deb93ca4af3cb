-- The power by that of half the exponent: what a loop over the bits of the exponent goes by.
use Rattle.std.specs.Prelude.{◌≡◌, refl, cond, ℕ, zero, suc, ◌+◌, ◌/◌, ◌%◌, ◌^◌, ◌≤◌, ◌<◌, eqb, Float}
use Rattle.std.proofs.Common.{sym, ap, ◌∙◌, arith}
use Rattle.definition.specs.Floats.{◌⊗◌, oneᶠ, powi_from, powi}

-- as many steps as the exponent
abbrev pub power_from : Float → Float → ℕ → Float
power_from a b n = powi_from n a b n

-- ---- with at least n steps to go by, how many does not matter
half_le : (n k : ℕ) → suc n ≤ suc k → suc n / 2 ≤ k
half_le n k h = omega arith

none : (k : ℕ) → suc k ≤ 0 → ⊥
none k h = omega arith

pub power_more : (k j : ℕ) (a b : Float) (n : ℕ) → n ≤ k → n ≤ j → powi_from k a b n ≡ powi_from j a b n
unfolding powi_from
power_more zero zero a b n h g = refl
power_more zero (suc j) a b zero h g = refl
power_more zero (suc j) a b (suc n) h g = absurd (none n h)
power_more (suc k) zero a b zero h g = refl
power_more (suc k) zero a b (suc n) h g = absurd (none n g)
power_more (suc k) (suc j) a b zero h g = refl
power_more (suc k) (suc j) a b (suc n) h g = power_more k j (cond (eqb (suc n % 2) 1) (a ⊗ b) a) (b ⊗ b) (suc n / 2) (half_le n k h) (half_le n j g)

-- a power by that of half the exponent
pub power_zero : (a b : Float) (n : ℕ) → n ≡ 0 → a ≡ power_from a b n
unfolding powi_from
power_zero a b n e = ap (λ (k : ℕ). powi_from k a b k) (sym e)

pub power_half : (a b : Float) (n : ℕ) → power_from (cond (eqb (n % 2) 1) (a ⊗ b) a) (b ⊗ b) (n / 2) ≡ power_from a b n
unfolding powi_from
power_half a b zero = refl
power_half a b (suc n) = power_more (suc n / 2) n (cond (eqb (suc n % 2) 1) (a ⊗ b) a) (b ⊗ b) (suc n / 2) (omega arith) (omega arith)

-- ... where the lowest bit is known
half-by : (a b : Float) (n r : ℕ) → r ≡ n % 2 → power_from (cond (eqb r 1) (a ⊗ b) a) (b ⊗ b) (n / 2) ≡ power_from a b n
half-by a b n r e = ap (λ (k : ℕ). power_from (cond (eqb k 1) (a ⊗ b) a) (b ⊗ b) (n / 2)) e ∙ power_half a b n

pub power_odd : (a b : Float) (n : ℕ) → n % 2 ≡ 1 → power_from (a ⊗ b) (b ⊗ b) (n / 2) ≡ power_from a b n
power_odd a b n e = half-by a b n 1 (sym e)

pub power_even : (a b : Float) (n : ℕ) → (n % 2 ≡ 1 → ⊥) → power_from a (b ⊗ b) (n / 2) ≡ power_from a b n
power_even a b n f = half-by a b n 0 (omega arith)

pub power_one : (a b : Float) (n : ℕ) → n ≡ 1 → a ⊗ b ≡ power_from a b n
unfolding powi_from
power_one a b n e = ap (λ (k : ℕ). powi_from k a b k) (sym e)

-- ---- a power by that without the exponent's highest bit

-- b squared k times: the square that belongs to bit k
abbrev pub square_of : Float → ℕ → Float
square_of b zero = b
square_of b (suc k) = square_of (b ⊗ b) k

pub square_next : (b : Float) (k : ℕ) → square_of b k ⊗ square_of b k ≡ square_of b (suc k)
square_next b zero = refl
square_next b (suc k) = square_next (b ⊗ b) k

pub power_top : (k : ℕ) (a b : Float) (m n : ℕ) → m < 2 ^ k → n ≡ m + 2 ^ k → power_from a b m ⊗ square_of b k ≡ power_from a b n
power_top zero a b m n h e =
    let z : m ≡ 0 = omega arith in
    ap (λ (x : Float). x ⊗ b) (sym (power_zero a b m z)) ∙ power_one a b n (omega arith)
power_top (suc k) a b m n h e =
    ap (λ (x : Float). x ⊗ square_of (b ⊗ b) k) (sym (power_half a b m))
    ∙ power_top k (cond (eqb (m % 2) 1) (a ⊗ b) a) (b ⊗ b) (m / 2) (n / 2) (omega arith) (omega arith)
    ∙ half-by a b n (m % 2) (omega arith)

-- a bit, by its value, with its square
pub record BitSquare (base : Float) (bit : ℕ) (square : Float) : Type 0 where
  pub number : ℕ
  pub value : bit ≡ 2 ^ number
  pub squared : square ≡ square_of base number

pub bit_first : (base : Float) → BitSquare base 1 base
bit_first base = record { number = 0; value = refl; squared = refl }

pub bit_next : {base square : Float} {bit : ℕ} → BitSquare base bit square → BitSquare base (bit + bit) (square ⊗ square)
bit_next {base} {square} b =
    record {
      number = suc b.number;
      value = omega (arith, b.value);
      squared = ap (λ (x : Float). x ⊗ x) b.squared ∙ square_next base b.number;
    }

pub bit_power : {base square : Float} {bit : ℕ} → BitSquare base bit square → (m n : ℕ) → m < bit → n ≡ m + bit → powi base m ⊗ square ≡ powi base n
unfolding powi
bit_power {base} b m n h e = ap (λ (x : Float). power_from oneᶠ base m ⊗ x) b.squared ∙ power_top b.number oneᶠ base m n (omega (arith, b.value)) (omega (arith, b.value))
