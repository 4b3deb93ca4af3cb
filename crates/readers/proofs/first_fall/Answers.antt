-- `readers::first_fall` meets its contract. The loop's invariant: no read before this one falls.
use Rattle.std.proofs.Common.{◌<◌, length, arith, ◌∙◌, lt-ltb, le-ltb}
use Rattle.definition.specs.Readers.{reads_of, falls}
use Rattle.checks.specs.Searching.{reached_next, reached_here, reached_end}
use Rattle.readers.specs.Slices.{falls_count, fall_test, second_reached}
use Rattle.readers.proofs.first_fall.Goals as goal

pub loop-i-init : goal.loop-i-init
loop-i-init c = second_reached _

pub returns-then-reads-i : goal.returns-then-reads-i
returns-then-reads-i c =
    let s = c.loop-i in
    let rs = c.args.reads.now in
    reached_here _ s.i (omega (arith, falls_count rs)) (fall_test rs s.i (omega arith) (omega arith) ∙ lt-ltb _ _ c.if-reads-i.true) s.invariant

pub loop-i-preserved : goal.loop-i-preserved
loop-i-preserved c =
    let s = c.loop-i in
    let rs = c.args.reads.now in
    let l : s.i < length (falls (reads_of rs)) = omega (arith, falls_count rs) in
    reached_next _ s.i l (fall_test rs s.i (omega arith) (omega arith) ∙ le-ltb _ _ c.if-reads-i.false) s.invariant

pub returns : goal.returns
returns c = reached_end _ c.loop-i.i (omega (arith, falls_count c.args.reads.now)) c.loop-i.invariant
