-- Zeros in a range.
use Rattle.std.specs.Prelude.{◌≡◌, refl, List, [], ◌∷◌, ◌++◌, map, ℕ, zero, suc, ◌+◌, ◌≤◌, length, take, drop, replicate, Float}
use Rattle.std.proofs.Common.{sym, ap, ◌∙◌, arith, take-append-drop}
use Rattle.std.proofs.lemmas.List.{length-replicate}
use Rattle.definition.specs.Floats.{zeroᶠ}

pub map-zero : (l : List Float) → map (λ (x : Float). zeroᶠ) l ≡ replicate (length l) zeroᶠ
map-zero [] = refl
map-zero (x ∷ l) = ap {B = List Float} (λ t. zeroᶠ ∷ t) (map-zero l)

pub zeros-part : (n a k : ℕ) → a + k ≤ n → take k (drop a (replicate n zeroᶠ)) ≡ replicate k zeroᶠ
zeros-part n zero zero h = refl
zeros-part (suc n) zero (suc k) h = ap {B = List Float} (λ t. zeroᶠ ∷ t) (zeros-part n zero k (less k n h))
  where
    less : (k n : ℕ) → 0 + suc k ≤ suc n → 0 + k ≤ n
    less k n h = omega arith
zeros-part zero zero (suc k) h = absurd (never k h)
  where
    never : (k : ℕ) → 0 + suc k ≤ 0 → ⊥
    never k h = omega arith
zeros-part zero (suc a) k h = absurd (never a k h)
  where
    never : (a k : ℕ) → suc a + k ≤ 0 → ⊥
    never a k h = omega arith
zeros-part (suc n) (suc a) k h = zeros-part n a k (less a k n h)
  where
    less : (a k n : ℕ) → suc a + k ≤ suc n → a + k ≤ n
    less a k n h = omega arith

-- of as many entries as it has
pub zeros-own : (s : List Float) (k : ℕ) → s ≡ replicate k zeroᶠ → s ≡ replicate (length s) zeroᶠ
zeros-own s k e = e ∙ ap (λ (n : ℕ). replicate n zeroᶠ) (sym (ap length e ∙ length-replicate k zeroᶠ))

-- a front of zeros that was lent, and is zeros again
module _ (t : List Float) (n k : ℕ) (e : t ≡ replicate n zeroᶠ) (h : k ≤ n) where
  pub zeros-front : take k t ≡ replicate k zeroᶠ
  zeros-front = ap (take k) e ∙ zeros-part n 0 k (omega (arith, h))

  pub zeros-back : (v : List Float) → v ≡ replicate k zeroᶠ → v ++ drop k t ≡ replicate n zeroᶠ
  zeros-back v f = ap (λ (x : List Float). x ++ drop k t) (f ∙ sym zeros-front) ∙ take-append-drop k t ∙ e

  pub zeros-long : k ≤ length t
  zeros-long = omega (arith, ap length e, length-replicate n zeroᶠ, h)
