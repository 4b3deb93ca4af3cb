-- `checks::with_mark` meets its contract. A digit that is 0 is set by adding its power.
use Prim.Native.Nat.{◌*◌, ◌^◌, ◌%◌}
use native.Mathlib.Omega.{arith}
use mathlib.Core.Path.{◌≡◌}
use lib.Pow.{shl_exact}
use Rattle.checks.specs.Marks.{digit-fits}
use Rattle.checks.proofs.with_mark.Goals as goal

pub overflow_add-result : goal.overflow_add-result
overflow_add-result c =
    let e : 1 * 2 ^ c.args.bit % 2 ^ 32 ≡ 1 * 2 ^ c.args.bit = shl_exact 1 c.args.bit 32 (omega arith) (omega arith) in
    omega (arith, e, digit-fits 32 c.args.word c.args.bit (omega arith) c.requires.0 c.requires.1)
