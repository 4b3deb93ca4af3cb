-- `steps::log::copy_range` meets its contract.
use Rattle.std.proofs.Common.{◌≡◌, ◌∙◌, arith}
use Rattle.list_laws.specs.Write.{write-none}
use Rattle.steps.specs.StepFloats.{copy_next, copy_all}
use Rattle.steps.proofs.log.copy_range.Goals as goal

pub loop-i-init : goal.loop-i-init
loop-i-init c = write-none _ _ _

pub loop-i-preserved : goal.loop-i-preserved
loop-i-preserved c =
    let l = c.loop-i in
    let a = c.args in
    copy_next a.w.now a.from a.to a.n c.requires l.w l.i (omega arith) l.invariant

pub returns : goal.returns
returns c =
    let l = c.loop-i in
    let a = c.args in
    let e : l.i ≡ a.n = omega arith in
    (rw e at l.invariant) ∙ copy_all a.w.now a.from a.to a.n c.requires
