-- `array_utils::vectors::sum` meets its contract: after i turns the sum is that of the first i entries.
use Rattle.std.proofs.Common.{sym, ap, ◌∙◌, add-one, arith}
use lib.Ieee.{of_bits}
use Rattle.std.specs.Float.{nan}
use Rattle.std.specs.Prelude.{Float, ℕ, get_or, take}
use Rattle.definition.specs.Floats.{◌⊕◌}
use Rattle.definition.specs.Vectors.{sum_of}
use Rattle.array_utils.specs.VectorLaws.{total-none, total_step}
use Rattle.array_utils.proofs.vectors.sum.Goals as goal

pub loop-x-init : goal.loop-x-init
unfolding of_bits
loop-x-init c = total-none c.args.a.now

pub loop-x-preserved : goal.loop-x-preserved
loop-x-preserved c =
    let l = c.loop-x in
    let a = c.args.a.now in
    ap (λ (s : Float). s ⊕ get_or a l.x-index nan) l.invariant ∙ sym (total_step a l.x-index (omega arith)) ∙ ap (λ (n : ℕ). sum_of (take n a)) (sym (add-one l.x-index))
