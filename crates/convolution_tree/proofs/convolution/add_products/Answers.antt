-- `convolution_tree::add_products` meets its contract: after j turns the first j products are added.
use Rattle.std.proofs.Common.{arith}
use Rattle.convolution_tree.specs.Rows.{row-none, row-turn}
use Rattle.convolution_tree.proofs.convolution.add_products.Goals as goal

pub loop-j-init : goal.loop-j-init
loop-j-init c = row-none _ c.args.b.now _

pub loop-j-preserved : goal.loop-j-preserved
loop-j-preserved c =
    let l = c.loop-j in
    let a = c.args in
    row-turn l.j a.x a.b.now a.out.now l.out (omega arith) c.requires l.invariant
