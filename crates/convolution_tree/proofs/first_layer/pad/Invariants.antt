-- `convolution_tree::pad` meets its contract: after i turns the first i leaves stand there.
use Rattle.std.proofs.Common.{◌≡◌}
use Rattle.list_laws.specs.Put.{put}
use Rattle.convolution_tree.specs.Leaves.{padding}
use Rattle.convolution_tree.proofs.first_layer.pad.Given as goal

abbrev pub invariant-loop-i : goal.invariant-loop-i
invariant-loop-i l = l.w ≡ put l.initial.w l.at (padding l.i)
