-- `sweeps::sweep::rotate` meets its contract.
use Rattle.sweeps.specs.SweepRotate.{rotated-swapped}
use Rattle.sweeps.proofs.sweep.rotate.Goals as goal

pub returns : goal.returns
returns c =
    let s = c.split_at_mut-in_force in
    let t = c.split_at_mut-new in
    let p = c.swap_with_slice in
    let q = c.swap_with_slice-2 in
    rotated-swapped c.args.l c.args.w.now s.result.0.now s.result.1.now t.result.0.now t.result.1.now p.new.self p.new.other q.new.self q.new.other
    s.ensures.front s.ensures.back t.ensures.front t.ensures.back p.ensures.after p.ensures.other_after q.ensures.after q.ensures.other_after
