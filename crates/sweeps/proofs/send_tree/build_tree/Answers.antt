-- `sweeps::send_tree::build_tree` meets its contract.
use Rattle.std.proofs.Common.{◌≡◌, ◌+◌, ◌-◌, ◌*◌, ◌∙◌, refl, arith}
use Rattle.list_laws.specs.Slices.{copy_within-put}
use Rattle.sweeps.specs.SweepBuild.{built-is}
use Rattle.sweeps.proofs.send_tree.build_tree.Goals as goal

pub returns : goal.returns
returns c =
    let a = c.args in
    let m = 3 * a.n + 1 in
    let g = a.scratch + m + c.scratch_len.result - a.scratch in
    let e : g ≡ m + c.scratch_len.result = omega arith in
    let copied = c.copy_within.ensures.after ∙ copy_within-put a.w.now a.from (a.from + m) a.scratch m (omega arith) refl in
    built-is a.w.now a.from a.n a.scratch c.requires c.scratch_len.result g c.copy_within.new.self c.tree_messages.new.w _ c.scratch_len.ensures.0
    c.scratch_len.ensures.1 e copied c.tree_messages.ensures refl
