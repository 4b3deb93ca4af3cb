-- How many leaves a queue over d directions has: the least power of two that is not below d.
use Rattle.std.specs.Prelude.{◌≡◌, refl, ◌⊎◌, ℕ, zero, suc, ◌-◌, ◌*◌, ◌^◌, ◌≤◌, ◌<◌}
use Rattle.std.proofs.Common.{sym, ap, ◌∙◌, inl, inr, le_antisymm, pow-suc, arith, pow_pos, pow_mono}
use Rattle.std.proofs.Math.Logic.{by_cases}
use Rattle.std.proofs.Math.Decide.{dec_lt}
use Rattle.std.specs.Float.Ieee.{size}
use Rattle.std.specs.Float.Ieee.Digits.{size-lt, size-le, size_reaches}

-- `size n` is how many binary digits n has, so that n < 2 ^ size n
unfoldable pub leaves_for : ℕ → ℕ
leaves_for d = 2 ^ size (d - 1)

-- w is a power of two
pub record Full (w : ℕ) : Type 0 where
  pub height : ℕ
  pub is : w ≡ 2 ^ height

pub leaves_full : (d : ℕ) → Full (leaves_for d)
unfolding leaves_for
leaves_full d = record { height = size (d - 1); is = refl }

pub leaves-enough : (d : ℕ) → d ≤ leaves_for d
unfolding leaves_for
leaves-enough d = omega (arith, size-lt (d - 1))

twice : (e : ℕ) → 2 ^ suc e ≡ 2 * 2 ^ e
twice e = rw pow-suc (omega arith)

-- no power of two between
pub leaves_tight : (d : ℕ) → (leaves_for d ≡ 1) ⊎ (leaves_for d < 2 * d)
unfolding leaves_for
leaves_tight d = go (size (d - 1)) (size_reaches (d - 1))
  where
    go : (e : ℕ) → ((j : ℕ) → j < e → 2 ^ j ≤ d - 1) → (2 ^ e ≡ 1) ⊎ (2 ^ e < 2 * d)
    go zero f = inl refl
    go (suc e) f = inr (omega (arith, twice e, f e (omega arith), pow_pos e))

-- directions whose number fits in k binary digits have leaves whose number does
pub leaves-within : (d k : ℕ) → d ≤ 2 ^ k → leaves_for d ≤ 2 ^ k
unfolding leaves_for
leaves-within d k h = pow_mono (size-le (d - 1) k (omega (arith, pow_pos k)))

pub leaves-some : (d : ℕ) → 1 ≤ leaves_for d
unfolding leaves_for
leaves-some d = pow_pos (size (d - 1))

-- ---- doubling from 1 on ends there

-- w is 2 ^ e, and each power before it is below d
pub record Doubling (d w : ℕ) : Type 0 where
  pub exponent : ℕ
  pub is : w ≡ 2 ^ exponent
  pub before : (j : ℕ) → j < exponent → 2 ^ j < d

pub doubling_next : (d w : ℕ) → w < d → Doubling d w → Doubling d (2 * w)
doubling_next d w h r =
    record {
      exponent = suc r.exponent;
      is = ap (λ (n : ℕ). 2 * n) r.is ∙ sym (twice r.exponent);
      before = λ j k. let l : 2 ^ j ≤ 2 ^ r.exponent = pow_mono (omega arith) in omega (arith, r.is);
    }

pub doubling_end : (d w : ℕ) → d ≤ w → Doubling d w → w ≡ leaves_for d
unfolding leaves_for
doubling_end d w h r = r.is ∙ ap (λ (n : ℕ). 2 ^ n) (le_antisymm below above)
  where
    above : size (d - 1) ≤ r.exponent
    above = size-le (d - 1) r.exponent (omega (arith, r.is, pow_pos r.exponent))

    below : r.exponent ≤ size (d - 1)
    below =
        by_cases (dec_lt (size (d - 1)) r.exponent)
        (λ (k : size (d - 1) < r.exponent). omega (arith, r.before (size (d - 1)) k, size-lt (d - 1)))
        (λ k. omega arith)

example : leaves_for 20000 ≡ 32768
unfolding leaves_for size
example = refl
