-- `convolution_tree::propagate_backward` meets its contract: the loop goes from the root, layer `layers`, down to the leaves, layer 0.
use Rattle.std.proofs.Common.{◌≡◌, ◌-◌, replicate}
use Rattle.definition.specs.Floats.{zeroᶠ}
use Rattle.convolution_tree.specs.WayDown.{Descending}
use Rattle.convolution_tree.proofs.tree.propagate_backward.Given as goal

abbrev pub invariant-loop : goal.invariant-loop
invariant-loop l = record {
  descended : Descending l.initial.w l.layers l.leaves l.n l.root l.w l.at l.c l.m l.f (l.layers - l.counter);
  zeros : l.t ≡ replicate 130 zeroᶠ;
}
