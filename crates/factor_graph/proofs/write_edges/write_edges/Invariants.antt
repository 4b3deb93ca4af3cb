-- `write_edges::write_edges` meets its contract: the edges of the markers that are left, pushed, give them all.
use Rattle.factor_graph.specs.BuildEdges.{MarkersPushed}
use Rattle.factor_graph.proofs.write_edges.write_edges.Given as goal

abbrev pub invariant-loop-m : goal.invariant-loop-m
invariant-loop-m l = MarkersPushed l.factors l.markers l.counts l.grades l.initial.edges l.initial.degrees l.edges l.degrees l.m l.tree l.start l.k
