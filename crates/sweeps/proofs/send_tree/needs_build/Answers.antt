-- `sweeps::send_tree::needs_build` meets its contract.
use Rattle.sweeps.specs.SweepRebuild.{never-built}
use Rattle.sweeps.proofs.send_tree.needs_build.Goals as goal

pub returns-then-flag-eq0 : goal.returns-then-flag-eq0
returns-then-flag-eq0 c =
    let a = c.args in
    never-built a.tolerance a.flag a.l a.from a.n a.w.now c.if-flag-eq0.true
