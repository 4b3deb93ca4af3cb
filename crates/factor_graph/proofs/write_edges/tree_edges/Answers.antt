-- `write_edges::tree_edges` meets its contract: the edges that are left, pushed, give them all.
use Rattle.std.proofs.Common.{arith}
use Rattle.factor_graph.specs.BuildEdges.{tree-turn, tree_done}
use Rattle.factor_graph.proofs.write_edges.tree_edges.Goals as goal

pub loop-i-preserved : goal.loop-i-preserved
loop-i-preserved c =
    let r = c.push_edge in
    let s = c.loop-i in
    let a = c.args in
    tree-turn a.tree a.k a.grades.now a.edges.now a.degrees.now s.edges s.degrees s.i (omega arith) s.invariant r.new.edges r.new.degrees r.ensures

pub returns : goal.returns
returns c =
    let s = c.loop-i in
    let a = c.args in
    tree_done a.tree a.k a.grades.now a.edges.now a.degrees.now s.edges s.degrees s.i (omega arith) s.invariant
