-- `nodes::tree_labels` meets its contract.
use Rattle.factor_graph.specs.BuildNodes.{Labelled}
use Rattle.factor_graph.proofs.nodes.tree_labels.Given as goal

abbrev pub invariant-loop-m : goal.invariant-loop-m
invariant-loop-m l = Labelled l.counts l.initial.words l.at l.markers l.words l.m l.t
