-- `convolution_tree::count_layer` meets its contract: after i turns the first i nodes of the layer above stand there.
use Rattle.std.proofs.Common.{◌≡◌, ◌+◌, ◌-◌, ◌*◌, drop, replicate}
use Rattle.list_laws.specs.Put.{put}
use Rattle.definition.specs.Floats.{zeroᶠ}
use Rattle.definition.specs.ConvolutionTree.{count_layer}
use Rattle.graph_laws.specs.Flat.{flat}
use Rattle.convolution_tree.specs.Nodes.{nodes}
use Rattle.convolution_tree.proofs.layer.count_layer.Given as goal

abbrev pub invariant-loop : goal.invariant-loop
invariant-loop l = record {
  from : l.a ≡ l.at + 2 * (l.counter * l.m);
  to : l.o ≡ l.out + l.counter * (l.m + l.m - 1);
  made : l.w ≡ put l.initial.w l.out (flat (count_layer (nodes l.m (2 * l.counter) (drop l.at l.initial.w))));
  zeros : l.t ≡ replicate (l.m + l.m - 1) zeroᶠ;
}
