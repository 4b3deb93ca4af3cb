-- `nodes::count_up` meets its contract: the numbers that are left to store, stored, give them all.
use Rattle.std.proofs.Common.{◌∙◌, arith}
use Rattle.factor_graph.specs.BuildNodes.{counting-start, counting-turn, counting-done}
use Rattle.factor_graph.proofs.nodes.count_up.Goals as goal

pub loop-i-preserved : goal.loop-i-preserved
loop-i-preserved c =
    let s = c.loop-i in
    let a = c.args in
    counting-turn s.words a.at a.n s.i (omega arith) (omega arith) ∙ s.invariant

pub returns : goal.returns
returns c =
    let s = c.loop-i in
    let a = c.args in
    counting-done s.words a.at a.n s.i (omega arith) (omega arith) ∙ s.invariant ∙ counting-start a.words.now a.at a.n
