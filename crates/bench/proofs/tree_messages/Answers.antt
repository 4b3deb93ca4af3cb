-- `bench::tree_messages` meets its contract.
use mathlib.Core.Path.{sym, ◌∙◌}
use native.Mathlib.Omega.{arith}
use Rattle.bench.specs.Tree.{tree_few, tree-many, tree-short, tree-fits}
use Rattle.bench.proofs.tree_messages.Goals as goal

pub returns-then-needed-w : goal.returns-then-needed-w
returns-then-needed-w c =
    let a = c.args in
    c.tree_messages.ensures ∙ sym (tree-fits a.n a.w.now c.if-n-ge2.true c.if-n-le128.true (omega (arith, c.if-needed-w.true, c.scratch_len.ensures.0)))

pub returns-else-needed-w : goal.returns-else-needed-w
returns-else-needed-w c =
    let a = c.args in
    sym (tree-short a.n a.w.now c.if-n-ge2.true c.if-n-le128.true (omega (arith, c.if-needed-w.false, c.scratch_len.ensures.0)))

pub returns-else-n-le128 : goal.returns-else-n-le128
returns-else-n-le128 c =
    let a = c.args in
    sym (tree-many a.n a.w.now c.if-n-ge2.true (omega (arith, c.if-n-le128.false)))

pub returns-else-n-ge2 : goal.returns-else-n-ge2
returns-else-n-ge2 c =
    let a = c.args in
    sym (tree_few a.n a.w.now (omega (arith, c.if-n-ge2.false)))
