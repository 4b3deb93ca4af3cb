-- `nodes::write_labels` meets its contract. Assumes nothing.
use Rattle.definition.specs.Lists.{range}
use Rattle.factor_graph.specs.BuildNodes.{trees_from, four_calls}
use Rattle.factor_graph.specs.BuildSums.{length-range}
use Rattle.factor_graph.proofs.nodes.write_labels.Goals as goal

pub returns : goal.returns
returns c =
    let a = c.args in
    four_calls a.words.now c.count_up.new.words c.count_up-2.new.words c.count_up-3.new.words c.tree_labels.new.words a.at a.g a.m (range 0 a.g) (range 0 a.m) (range 0 a.m) (trees_from a.counts.now a.m 0) (length-range 0 a.g) (length-range 0 a.m) (length-range 0 a.m) c.requires.0 c.count_up.ensures c.count_up-2.ensures c.count_up-3.ensures c.tree_labels.ensures
