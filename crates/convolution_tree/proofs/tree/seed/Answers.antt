-- `convolution_tree::seed` meets its contract.
use native.Mathlib.Omega.{arith}
use Rattle.convolution_tree.specs.Tree.{seed_put}
use Rattle.convolution_tree.proofs.tree.seed.Goals as goal

pub returns : goal.returns
returns c =
    let a = c.args in
    seed_put a.w.now c.normalize.new.a c.build_first_layer.new.w a.n (omega arith) c.normalize.ensures c.build_first_layer.ensures
