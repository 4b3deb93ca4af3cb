-- `convolution_tree::size_for` meets its contract: after each turn there are 2 ^ layers leaves.
use mathlib.Core.Path.{◌≡◌}
use Prim.Native.Nat.{◌-◌, ◌^◌, ◌≤◌}
use Rattle.definition.specs.ConvolutionTree.{log_length}
use Rattle.convolution_tree.proofs.first_layer.size_for.Given as goal

abbrev pub invariant-loop-leaves : goal.invariant-loop-leaves
invariant-loop-leaves l = (l.layers ≤ log_length l.n) × (l.leaves ≡ 2 ^ l.layers)

abbrev pub decreases-loop-leaves : goal.decreases-loop-leaves
decreases-loop-leaves l = l.n - l.leaves
