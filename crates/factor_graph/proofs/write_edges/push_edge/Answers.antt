-- `write_edges::push_edge` meets its contract. Assumes nothing.
use Rattle.factor_graph.specs.BuildEdges.{push_five}
use native.Mathlib.Omega.{arith}
use Rattle.factor_graph.proofs.write_edges.push_edge.Goals as goal

pub returns : goal.returns
returns c =
    let a = c.args in
    push_five a.edges.now a.degrees.now a.k a.node1 a.node2 a.entries (omega (arith, c.requires.room))
