-- `whole_part` meets its contract: from 2 ^ -21 to 1 the exponent's field goes from 106 to 127.
use mathlib.Core.Path.{sym, subst}
use Prim.Native.Nat.{◌≤◌}
use native.Mathlib.Omega.{arith}
use lib.Dec.{T}
use lib.Ieee.{binary32, fits, of_bits, to_bits}
use Rattle.weighing_laws.specs.Shares.{share-none, bits-from, bits-upto, share-by-digits}
use Rattle.shares.proofs.whole_part.Goals as goal
use Rattle.shares.proofs.whole_part.Goals.{Else-present, Start}

-- what owning an `f32` tells: the format holds it
held : (c : Start) → T (fits binary32 c.args.present)
held c = subst T (sym c.well_formed.1.0.1) tt

low : (c : Else-present) → 889192448 ≤ to_bits binary32 c.args.present
unfolding of_bits
low c = bits-from c.args.present (held c.before) c.requires.1 c.if-present.false

high : (c : Else-present) → to_bits binary32 c.args.present ≤ 1065353216
unfolding of_bits
high c = bits-upto c.args.present (held c.before) c.requires.1 c.if-present.false

pub returns-then-present : goal.returns-then-present
unfolding of_bits
returns-then-present c = sym (share-none c.args.grams c.args.present c.requires.0 c.if-present.true)

pub overflow_sub-result : goal.overflow_sub-result
overflow_sub-result c = omega (arith, high c)

pub overflow_shr-result : goal.overflow_shr-result
overflow_shr-result c = omega (arith, low c)

pub returns : goal.returns
unfolding of_bits
returns c = sym (share-by-digits c.args.present (held c.before) c.requires.1 c.if-present.false c.args.grams)
