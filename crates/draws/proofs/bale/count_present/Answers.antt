-- `bale::count_present` meets its contract. The loop's invariant: the first i pairs are counted.
use Rattle.std.proofs.Common.{◌+◌, ◌*◌, ◌/◌, ◌<◌, length, get_or, arith}
use Rattle.std.proofs.Math.Bool.{false}
use Rattle.report_laws.specs.Counts.{one_small}
use Rattle.draws.specs.Present.{known_at, present-next, present_few, present-all}
use Rattle.draws.proofs.bale.count_present.Goals as goal

pub bounds-present-g : goal.bounds-present-g
bounds-present-g c = (known_at _ _ c.args.pairs.now c.loop-i.i (omega arith) c.requires.0).0

pub bounds-counts-m : goal.bounds-counts-m
bounds-counts-m c = omega (arith, known_at _ _ c.args.pairs.now c.loop-i.i (omega arith) c.requires.0)

pub overflow_add-counts : goal.overflow_add-counts
overflow_add-counts c =
    let a = c.args in
    let s = c.loop-i in
    let few = present_few a.present.now a.pairs.now s.i s.counts (omega arith) s.invariant (get_or a.pairs.now (2 * s.i + 1) 0) in
    omega (arith, few, one_small (get_or a.present.now (get_or a.pairs.now (2 * s.i) 0) false))

pub bounds-counts-m-in-loop-i : goal.bounds-counts-m-in-loop-i
bounds-counts-m-in-loop-i c = omega (arith, known_at _ _ c.args.pairs.now c.loop-i.i (omega arith) c.requires.0)

pub loop-i-preserved : goal.loop-i-preserved
loop-i-preserved c =
    let a = c.args in
    let s = c.loop-i in
    let inside : s.i < length a.pairs.now / 2 = omega arith in
    let room : get_or a.pairs.now (2 * s.i + 1) 0 < length s.counts = omega (arith, known_at _ _ a.pairs.now s.i inside c.requires.0) in
    rw c.from.ensures (present-next a.present.now a.pairs.now s.i s.counts inside room s.invariant)

pub returns : goal.returns
returns c = present-all c.args.present.now c.args.pairs.now c.loop-i.i c.loop-i.counts (omega arith) c.loop-i.invariant
