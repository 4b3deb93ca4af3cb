-- `convolution_tree::likelihoods_below` meets its contract: after i turns the likelihoods of the first 2 * i nodes stand in their place.
use Rattle.std.proofs.Common.{◌≡◌, ◌+◌, ◌*◌, drop, replicate}
use Rattle.list_laws.specs.Put.{put}
use Rattle.definition.specs.Floats.{zeroᶠ}
use Rattle.definition.specs.ConvolutionTree.{likelihoods_below}
use Rattle.graph_laws.specs.Flat.{flat}
use Rattle.convolution_tree.specs.Nodes.{nodes}
use Rattle.convolution_tree.proofs.layer.likelihoods_below.Given as goal

abbrev pub invariant-loop : goal.invariant-loop
invariant-loop l = record {
  from : l.l ≡ l.above + l.counter * l.n;
  to : l.a ≡ l.at + 2 * (l.counter * l.m);
  made : l.w ≡ put l.initial.w l.at (flat (likelihoods_below (nodes l.n l.counter (drop l.above l.initial.w)) (nodes l.m (2 * l.counter) (drop l.at l.initial.w))));
  zeros : l.t ≡ replicate (l.m + l.m) zeroᶠ;
}
