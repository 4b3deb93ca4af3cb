-- `bench::leaf_all` meets its contract: the entries before the index are done.
use Rattle.std.proofs.Common.{arith, ◌∙◌}
use Rattle.std.specs.Float.{nan}
use Rattle.list_laws.specs.InPlace.{mapped-turn, mapped-all}
use Rattle.bench.specs.Leaves.{leaf_of}
use Rattle.bench.proofs.leaf_all.Goals as goal

pub loop-x-preserved : goal.loop-x-preserved
loop-x-preserved c =
    let l = c.loop-x in
    let a = c.args in
    mapped-turn (leaf_of a.which) a.xs.now l.xs l.x-index nan c.leaf.result (omega arith) l.auto.xs l.invariant c.leaf.ensures

pub returns : goal.returns
returns c =
    let l = c.loop-x in
    let a = c.args in
    l.invariant ∙ mapped-all (leaf_of a.which) l.x-index a.xs.now (omega arith)
