-- `array_utils::exponential::power_of_half` meets its contract, by one computed test over the 127 numbers.
use mathlib.Core.Bool.{Bool, not, ◌&&◌}
use Prim.Native.Nat.{ℕ, ◌-◌, ◌*◌, ◌%◌, ◌^◌, ◌<◌}
use native.Mathlib.Omega.{arith}
use lib.Dec.{T}
use lib.Ieee.{binary32, of_bits, nan_bits, round}
use lib.Ieee.Fits.{and_l, and_r}
use Rattle.float_laws.specs.Table.{upto, upto-at}
use Rattle.float_laws.specs.Same.{same, same→eq}
use Rattle.definition.specs.Floats.{ratio}
use Rattle.array_utils.proofs.exponential.power_of_half.Goals as goal

-- the pattern of 2 ^ -n: a shift keeps the lower 32 digits
abbrev pattern : ℕ → ℕ
pattern n = (127 - n) * 2 ^ 23 % 2 ^ 32

fine : ℕ → Bool
fine n = not (nan_bits binary32 (pattern n)) && same (of_bits binary32 (pattern n)) (ratio 1 (2 ^ n))

all_fine : T (upto fine 127)
unfolding fine nan_bits of_bits round
all_fine = tt

at : (n : ℕ) → n < 127 → T (not (nan_bits binary32 (pattern n)) && same (of_bits binary32 (pattern n)) (ratio 1 (2 ^ n)))
unfolding fine
at n h = upto-at fine 127 all_fine n h

pub float_from_bits-result : goal.float_from_bits-result
float_from_bits-result c = let n = c.args.n in and_l (not (nan_bits binary32 (pattern n))) (same (of_bits binary32 (pattern n)) (ratio 1 (2 ^ n))) (at n (omega arith))

pub returns : goal.returns
returns c =
    let n = c.args.n in
    same→eq (of_bits binary32 (pattern n)) (ratio 1 (2 ^ n)) (and_r (not (nan_bits binary32 (pattern n))) (same (of_bits binary32 (pattern n)) (ratio 1 (2 ^ n))) (at n (omega arith)))
