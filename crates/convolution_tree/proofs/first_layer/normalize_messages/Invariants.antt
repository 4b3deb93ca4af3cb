-- `convolution_tree::normalize_messages` meets its contract: after i turns the first i messages are normalised.
use Rattle.std.proofs.Common.{◌≡◌}
use Rattle.list_laws.specs.Put.{put}
use Rattle.convolution_tree.specs.Leaves.{leaves_of}
use Rattle.convolution_tree.proofs.first_layer.normalize_messages.Given as goal

abbrev pub invariant-loop-i : goal.invariant-loop-i
invariant-loop-i l = l.w ≡ put l.initial.w 0 (leaves_of l.i l.initial.w)
