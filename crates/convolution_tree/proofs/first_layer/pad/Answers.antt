-- `convolution_tree::pad` meets its contract: after i turns the first i leaves stand there.
use Rattle.std.proofs.Common.{arith}
use lib.Ieee.{of_bits}
use Rattle.convolution_tree.specs.Leaves.{pad_start, pad_turn}
use Rattle.convolution_tree.proofs.first_layer.pad.Goals as goal

pub loop-i-init : goal.loop-i-init
loop-i-init c = pad_start c.args.w.now c.args.k c.args.at c.requires

pub loop-i-preserved : goal.loop-i-preserved
unfolding of_bits
loop-i-preserved c =
    let s = c.loop-i in
    let a = c.args in
    pad_turn a.w.now a.k a.at c.requires s.w s.i (omega arith) s.invariant
