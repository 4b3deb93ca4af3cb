-- `trial::try_bale` meets its contract.
use Rattle.trials.specs.Bale.{weak_bale, weak_graph, drawn_accepted, drawn_tallied, bale_tried, floats_kept, numbers-kept}
use Prim.Native.Nat.{◌-◌, ◌*◌}
use mathlib.Core.Path.{◌≡◌}
use native.Mathlib.Omega.{arith}
use Rattle.trials.proofs.trial.try_bale.Goals as goal

pub run_reads-count-requires : goal.run_reads-count-requires
run_reads-count-requires c =
    let a = c.args in
    let D = c.draw_bale-state.ensures (weak_bale a.grades a.markers a.pairs.now) (weak_graph a.grades a.markers a.pairs.now) in
    let n : 2 * a.markers - 0 ≡ 2 * a.markers = omega arith in
    drawn_accepted _ _ _ _ _ _ _ c.requires.tryable _ _ _ _ _ _ D _ _ c.put_reads.ensures _ n

pub count_beliefs-after-requires : goal.count_beliefs-after-requires
count_beliefs-after-requires c =
    let a = c.args in
    let D = c.draw_bale-state.ensures (weak_bale a.grades a.markers a.pairs.now) (weak_graph a.grades a.markers a.pairs.now) in
    let n : 2 * a.markers - 0 ≡ 2 * a.markers = omega arith in
    drawn_tallied _ _ _ _ _ _ _ c.requires.tryable _ _ _ _ _ _ D _ _ c.put_reads.ensures _ n _ _ _ _ _ _ _ c.run_reads-count.ensures _ _ c.requires.agreed_bound.0 c.requires.agreed_bound.1

pub returns : goal.returns
returns c =
    let a = c.args in
    let D = c.draw_bale-state.ensures (weak_bale a.grades a.markers a.pairs.now) (weak_graph a.grades a.markers a.pairs.now) in
    let n : 2 * a.markers - 0 ≡ 2 * a.markers = omega arith in record { tried_bale = bale_tried _ _ _ _ _ _ _ c.requires.tryable _ _ _ _ _ _ D _ _ c.put_reads.ensures _ n _ _ _ _ _ _ _ c.run_reads-count.ensures _ _ _ _ c.count_beliefs-after.ensures.0 c.count_beliefs-after.ensures.1; work_floats_unchanged = (floats_kept _ _ _ _ _ _ _ c.requires.tryable _ _ _ _ _ _ D _ _ c.put_reads.ensures _ n _ _ _ _ _ _ _ c.run_reads-count.ensures, numbers-kept _ _ _ _ _ _ _ c.requires.tryable _ _ _ _ _ _ D _ _ c.put_reads.ensures _ n _ _ _ _ _ _ _ c.run_reads-count.ensures) }
