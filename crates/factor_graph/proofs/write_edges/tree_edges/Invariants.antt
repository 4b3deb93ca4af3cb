-- `write_edges::tree_edges` meets its contract: the edges that are left, pushed, give them all.
use Rattle.factor_graph.specs.BuildEdges.{TreePushed}
use Rattle.factor_graph.proofs.write_edges.tree_edges.Given as goal

abbrev pub invariant-loop-i : goal.invariant-loop-i
invariant-loop-i l = TreePushed l.tree l.k l.grades l.initial.edges l.initial.degrees l.edges l.degrees l.i
