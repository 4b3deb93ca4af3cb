-- `nodes::tree_labels` meets its contract.
use Rattle.std.proofs.Common.{arith}
use borrow.Author.Tests.{le-leb, lt-leb}
use Rattle.factor_graph.specs.BuildNodes.{label_room, label-turn, label_pass, label_done}
use Rattle.factor_graph.proofs.nodes.tree_labels.Goals as goal
use Rattle.factor_graph.proofs.nodes.tree_labels.Goals.{then-counts-m-ge2, else-counts-m-ge2}

pub bounds-words-at : goal.bounds-words-at
bounds-words-at c =
    let s = c.loop-m in
    let a = c.args in
    label_room a.counts.now a.words.now a.at a.markers s.words s.m s.t (omega arith) (omega arith) s.invariant (le-leb _ _ c.if-counts-m-ge2.true)

pub loop-m-preserved : goal.loop-m-preserved
loop-m-preserved c =
    let s = c.loop-m in
    let a = c.args in
    elim c.if-counts-m-ge2.branch [
      | then-counts-m-ge2 w ↦ rw (w.words-is, w.t-is) (label-turn a.counts.now a.words.now a.at a.markers s.words s.m s.t (omega arith) (omega arith) s.invariant (le-leb _ _ w.if-counts-m-ge2.true))
      | else-counts-m-ge2 w ↦ rw (w.words-is, w.t-is) (label_pass a.counts.now a.words.now a.at a.markers s.words s.m s.t (omega arith) (omega arith) s.invariant (lt-leb _ _ w.if-counts-m-ge2.false))
    ]

pub returns : goal.returns
returns c =
    let s = c.loop-m in
    let a = c.args in
    label_done a.counts.now a.words.now a.at a.markers s.words s.m s.t (omega arith) (omega arith) s.invariant
