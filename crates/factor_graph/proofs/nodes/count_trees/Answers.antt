-- `nodes::count_trees` meets its contract.
use Rattle.std.proofs.Common.{arith}
use Rattle.factor_graph.specs.BuildNodes.{trees-turn, trees-end, trees_few}
use Rattle.factor_graph.proofs.nodes.count_trees.Goals as goal

pub overflow_add-trees : goal.overflow_add-trees
overflow_add-trees c =
    let a = c.args in
    omega (arith, trees-turn a.counts.now a.markers c.loop-m.m (omega arith), c.trees_of-trees.ensures, trees_few a.counts.now a.markers 0)

pub loop-m-preserved : goal.loop-m-preserved
loop-m-preserved c =
    let a = c.args in
    omega (arith, trees-turn a.counts.now a.markers c.loop-m.m (omega arith), c.trees_of-trees.ensures)

pub returns : goal.returns
returns c =
    let a = c.args in
    omega (arith, trees-end a.counts.now a.markers c.loop-m.m (omega arith))
