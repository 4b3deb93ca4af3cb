-- `write_edges::write_edges` meets its contract: the edges of the markers that are left, pushed, give them all.
use Rattle.std.proofs.Common.{arith}
use Rattle.factor_graph.specs.BuildEdges.{marker_room, marker_part, marker_lent, marker_turn, markers_done}
use Rattle.factor_graph.proofs.write_edges.write_edges.Goals as goal

pub marker_edges-requires : goal.marker_edges-requires
marker_edges-requires c =
    let s = c.loop-m in
    let a = c.args in
    let p = c.requires in
    let room = marker_room a.factors a.markers a.counts.now a.grades.now a.edges.now a.degrees.now s.edges s.degrees s.m s.tree s.start s.k p.1 (omega arith) s.invariant in
    let part = marker_part a.factors a.markers a.counts.now a.grades.now a.edges.now a.degrees.now s.edges s.degrees s.m s.tree s.start s.k p.1 (omega arith) s.invariant in
    (marker_lent a.factors a.markers a.counts.now a.grades.now a.edges.now a.degrees.now s.edges s.degrees s.m s.tree s.start s.k p.1 (omega arith) s.invariant, omega (arith, p.3))

pub loop-m-preserved : goal.loop-m-preserved
loop-m-preserved c =
    let r = c.marker_edges in
    let s = c.loop-m in
    let a = c.args in
    let p = c.requires in
    marker_turn a.factors a.markers a.counts.now a.grades.now a.edges.now a.degrees.now s.edges s.degrees s.m s.tree s.start s.k p.1 (omega arith) s.invariant r.new.edges r.new.degrees c.trees_of-trees.result r.ensures c.trees_of-trees.ensures

pub returns : goal.returns
returns c =
    let s = c.loop-m in
    let a = c.args in
    markers_done a.factors a.markers a.counts.now a.grades.now a.edges.now a.degrees.now s.edges s.degrees s.m s.tree s.start s.k (omega arith) s.invariant
