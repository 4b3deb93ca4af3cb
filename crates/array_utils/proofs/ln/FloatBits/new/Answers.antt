-- `array_utils::ln::FloatBits::new` meets its contract: the value read is a number whose sign is clear, so its pattern is below 2 ^ 31.
use mathlib.Core.Path.{◌≡◌, sym, ap, ◌∙◌, subst}
use mathlib.Core.Bool.{not}
use Prim.Native.Nat.{ℕ, ◌/◌, ◌%◌, ◌^◌}
use native.Mathlib.Omega.{arith}
use lib.Dec.{T}
use lib.Ieee.{Float, binary32, is_nan, fits, to_bits}
use Rattle.float_laws.specs.Patterns.{clear-below}
use Rattle.message_bounds.specs.Ln.{normal, normal-number, normal-clear, normal-fits}
use Rattle.array_utils.proofs.ln.FloatBits.new.Goals as goal
use Rattle.array_utils.proofs.ln.FloatBits.new.Goals.{Start}

-- what owning an `f32` tells: the format holds it
held : (c : Start) → T (fits binary32 c.args.x)
held c = subst T (sym c.well_formed.0.1) tt

pub float_to_bits-bits : goal.float_to_bits-bits
float_to_bits-bits c = subst (λ (y : Float). T (not (is_nan y))) (sym c.clamp_to_normal-bits.ensures) (normal-number c.args.x)

-- the lower digits of the mantissa are those of the pattern
lower : (b : ℕ) → b % 2 ^ 23 % 2 ^ 13 ≡ b % 2 ^ 13
lower b = omega arith

pub returns : goal.returns
returns c =
    let x = c.args.x in
    let e = ap (to_bits binary32) c.clamp_to_normal-bits.ensures in (
      ap (λ (b : ℕ). b / 2 ^ 23) e,
      ap (λ (b : ℕ). b % 2 ^ 23 / 2 ^ 13) e,
      lower (to_bits binary32 c.clamp_to_normal-bits.result) ∙ ap (λ (b : ℕ). b % 2 ^ 13) e,
      clear-below (normal x) (normal-fits x (held c.before)) (normal-clear x),
    )
