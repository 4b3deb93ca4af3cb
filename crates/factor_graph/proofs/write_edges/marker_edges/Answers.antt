-- `write_edges::marker_edges` meets its contract, shape by shape. Assumes nothing.
use Rattle.factor_graph.specs.BuildEdges.{writing, none_only, none-whole, one-first, one_last, one-whole, many-first, many-leaves, many-last, many-whole}
use native.Mathlib.Omega.{arith}
use Rattle.factor_graph.proofs.write_edges.marker_edges.Goals as goal

pub push_edge-requires : goal.push_edge-requires
push_edge-requires c =
    let a = c.args in
    let w = c.requires.0 in
    none_only a.factor a.input a.tree a.k a.grades.now (writing a.edges.now a.degrees.now) w (omega arith)

pub returns-then-n-eq0 : goal.returns-then-n-eq0
returns-then-n-eq0 c =
    let a = c.args in
    let w = c.requires.0 in
    none-whole a.factor a.input a.tree a.k a.grades.now (writing a.edges.now a.degrees.now) w (omega arith) (writing c.push_edge.new.edges c.push_edge.new.degrees) c.push_edge.ensures

pub push_edge-requires-then-n-eq1 : goal.push_edge-requires-then-n-eq1
push_edge-requires-then-n-eq1 c =
    let a = c.args in
    let w = c.requires.0 in
    one-first a.factor a.input a.tree a.k a.grades.now (writing a.edges.now a.degrees.now) w (omega arith)

pub push_edge-requires-then-n-eq1-2 : goal.push_edge-requires-then-n-eq1-2
push_edge-requires-then-n-eq1-2 c =
    let a = c.args in
    let w = c.requires.0 in
    one_last a.factor a.input a.tree a.k a.grades.now (writing a.edges.now a.degrees.now) w (omega arith) (writing c.push_edge-then-n-eq1.new.edges c.push_edge-then-n-eq1.new.degrees) c.push_edge-then-n-eq1.ensures

pub returns-then-n-eq1 : goal.returns-then-n-eq1
returns-then-n-eq1 c =
    let a = c.args in
    let w = c.requires.0 in
    one-whole a.factor a.input a.tree a.k a.grades.now (writing a.edges.now a.degrees.now) w (omega arith) (writing c.push_edge-then-n-eq1.new.edges c.push_edge-then-n-eq1.new.degrees) (writing c.push_edge-then-n-eq1-2.new.edges c.push_edge-then-n-eq1-2.new.degrees) c.push_edge-then-n-eq1.ensures c.push_edge-then-n-eq1-2.ensures

pub push_edge-requires-2 : goal.push_edge-requires-2
push_edge-requires-2 c =
    let a = c.args in
    let w = c.requires.0 in
    many-first a.factor a.input a.tree a.k a.grades.now (writing a.edges.now a.degrees.now) w (omega arith)

pub tree_edges-requires : goal.tree_edges-requires
tree_edges-requires c =
    let a = c.args in
    let w = c.requires.0 in
    many-leaves a.factor a.input a.tree a.k a.grades.now (writing a.edges.now a.degrees.now) w (omega arith) (writing c.push_edge-2.new.edges c.push_edge-2.new.degrees) c.push_edge-2.ensures

pub push_edge-requires-3 : goal.push_edge-requires-3
push_edge-requires-3 c =
    let a = c.args in
    let w = c.requires.0 in
    many-last a.factor a.input a.tree a.k a.grades.now (writing a.edges.now a.degrees.now) w (omega arith) (writing c.push_edge-2.new.edges c.push_edge-2.new.degrees) (writing c.tree_edges.new.edges c.tree_edges.new.degrees) c.push_edge-2.ensures c.tree_edges.ensures

pub returns : goal.returns
returns c =
    let a = c.args in
    let w = c.requires.0 in
    many-whole a.factor a.input a.tree a.k a.grades.now (writing a.edges.now a.degrees.now) w (omega arith) (writing c.push_edge-2.new.edges c.push_edge-2.new.degrees) (writing c.tree_edges.new.edges c.tree_edges.new.degrees) (writing c.push_edge-3.new.edges c.push_edge-3.new.degrees) c.push_edge-2.ensures c.tree_edges.ensures c.push_edge-3.ensures
