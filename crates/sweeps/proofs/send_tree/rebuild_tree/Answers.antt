-- `sweeps::send_tree::rebuild_tree` meets its contract.
use Rattle.std.proofs.Common.{◌+◌, ◌-◌, ◌*◌, ◌∙◌, refl, rules, arith}
use Rattle.std.specs.Float.Ieee.{of_bits}
use Rattle.definition.specs.Floats.{zeroᶠ}
use Rattle.list_laws.specs.Slices.{copy_within-put, fill-put}
use Rattle.sweeps.specs.SweepRebuild.{rebuilt_is}
use Rattle.sweeps.proofs.send_tree.rebuild_tree.Goals as goal

pub returns : goal.returns
unfolding of_bits
returns c =
    let a = c.args in
    let from = c.word-from.result in
    let m = 3 * (a.k - 1) + 1 in
    let cleared = fill-put c.scatter.new.w c.fill.new.self a.scratch (a.scratch + m - a.scratch) m zeroᶠ
    (omega (arith, c.requires.building.room, c.requires.building.few)) (omega arith) (c.fill.ensures.after (λ y e. e)) in
    let copied = c.copy_within.ensures.after ∙ copy_within-put _ from (from + m) (a.l + a.l + a.l + from) m (search rules) refl in
    rebuilt_is a.outs.now a.offsets.now a.l a.first a.k a.scratch a.w.now c.requires from c.build_tree.new.w c.scatter.new.w _ c.copy_within.new.self
    c.word-from.ensures.0 c.build_tree.ensures c.scatter.ensures cleared copied
