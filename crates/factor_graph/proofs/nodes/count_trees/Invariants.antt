-- `nodes::count_trees` meets its contract.
use Rattle.std.proofs.Common.{◌≡◌, ◌-◌, ◌+◌, length}
use Rattle.factor_graph.specs.BuildNodes.{trees_from}
use Rattle.factor_graph.proofs.nodes.count_trees.Given as goal

abbrev pub invariant-loop-m : goal.invariant-loop-m
invariant-loop-m l = l.trees + length (trees_from l.counts (l.markers - l.m) l.m) ≡ length (trees_from l.counts l.markers 0)
