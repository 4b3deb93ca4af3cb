-- `convolution_tree::size_for` meets its contract: after each turn there are 2 ^ layers leaves.
use native.Mathlib.Omega.{arith}
use Rattle.convolution_tree.specs.Leaves.{size-turn, size-end, size_small}
use Rattle.convolution_tree.proofs.first_layer.size_for.Goals as goal

pub overflow_add-layers : goal.overflow_add-layers
overflow_add-layers c =
    let s = c.loop-leaves in
    omega (arith, size_small c.args.n c.requires)

pub loop-leaves-preserved : goal.loop-leaves-preserved
loop-leaves-preserved c =
    let s = c.loop-leaves in
    let r = size-turn c.args.n s.layers s.leaves c.loop-leaves-test.true s.invariant.0 s.invariant.1 in
    (r.0, r.1)

pub returns : goal.returns
returns c =
    let s = c.loop-leaves in
    size-end c.args.n s.layers s.leaves (omega arith) s.invariant.0 s.invariant.1
