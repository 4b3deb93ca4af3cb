-- `convolution_tree::build_remaining_layers` meets its contract: after i turns i layers stand above the leaves.
use Rattle.std.proofs.Common.{◌≡◌, replicate}
use Rattle.definition.specs.Floats.{zeroᶠ}
use Rattle.convolution_tree.specs.WayUp.{Growing}
use Rattle.convolution_tree.proofs.tree.build_remaining_layers.Given as goal

abbrev pub invariant-loop : goal.invariant-loop
invariant-loop l = record {
  grown : Growing l.initial.w l.layers l.leaves l.w l.at l.c l.m l.counter;
  zeros : l.t ≡ replicate 130 zeroᶠ;
}
