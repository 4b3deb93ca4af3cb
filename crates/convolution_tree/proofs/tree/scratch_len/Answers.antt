-- `convolution_tree::scratch_len` meets its contract.
use Rattle.std.proofs.Common.{◌≡◌, ap, ℕ, ◌+◌, ◌-◌, ◌*◌, ◌^◌, arith}
use Rattle.definition.specs.ConvolutionTree.{log_length}
use Rattle.convolution_tree.specs.Leaves.{size_small, sized, size-bound, size_above}
use Rattle.convolution_tree.specs.Tree.{scratch_len}
use Rattle.convolution_tree.proofs.tree.scratch_len.Goals as goal
use Rattle.convolution_tree.proofs.tree.scratch_len.Goals.{After-size_for-s}

-- the floats of all layers, by the length
floats : (c : After-size_for-s) → let s = c.size_for-s.result in (s.layers + 3) * s.leaves ≡ (log_length c.args.n + 3) * 2 ^ log_length c.args.n
floats c = let s = c.size_for-s in sized s.result.layers s.result.leaves c.args.n s.ensures.0 s.ensures.1

pub overflow_add-result : goal.overflow_add-result
overflow_add-result c = omega (arith, c.size_for-s.ensures.0, size_small c.args.n c.requires)

pub overflow_mul-result : goal.overflow_mul-result
overflow_mul-result c = omega (arith, floats (goal.at.overflow_mul-result c).After-size_for-s, size-bound c.args.n 7 c.requires)

pub overflow_sub-result : goal.overflow_sub-result
overflow_sub-result c = omega (arith, floats (goal.at.overflow_sub-result c).After-size_for-s, size_above c.args.n)

pub returns : goal.returns
unfolding scratch_len
returns c =
    let n = c.args.n in
    let e = floats (goal.at.returns c).After-size_for-s in
    (ap (λ (x : ℕ). x - (2 * n + 1)) e, omega (arith, e, size-bound n 7 c.requires))
