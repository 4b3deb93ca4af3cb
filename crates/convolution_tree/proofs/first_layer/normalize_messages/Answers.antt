-- `convolution_tree::normalize_messages` meets its contract: after i turns the first i messages are normalised.
use Rattle.std.proofs.Common.{arith}
use Rattle.convolution_tree.specs.Leaves.{leaves-start, leaves-turn}
use Rattle.convolution_tree.proofs.first_layer.normalize_messages.Goals as goal

pub loop-i-init : goal.loop-i-init
loop-i-init c = leaves-start c.args.w.now c.args.n c.requires

pub loop-i-preserved : goal.loop-i-preserved
loop-i-preserved c =
    let s = c.loop-i in
    let a = c.args in
    let r = c.normalize-r.result in
    leaves-turn a.w.now a.n c.requires s.w s.i r.absent r.present (omega arith) s.invariant c.normalize-r.ensures
