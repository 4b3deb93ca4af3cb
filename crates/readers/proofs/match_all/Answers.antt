-- `readers::match_all` meets its contract. The loop's invariant: `Running`.
use Rattle.std.proofs.Common.{◌≡◌, ◌/◌, length, add-one, arith}
use Rattle.definition.specs.Readers.{reads_of}
use Rattle.readers_laws.specs.Answer.{few_lower}
use Rattle.readers.specs.Slices.{length-reads}
use Rattle.readers.specs.Turns.{running_first, lower_count, turnable, running_next, running_end}
use Rattle.readers.proofs.match_all.Goals as goal

pub loop-i-init : goal.loop-i-init
loop-i-init c = running_first _ _ _ _

pub skip-first-requires : goal.skip-first-requires
skip-first-requires c =
    let a = c.args in
    let h = c.loop-i.invariant in
    record { lower_len_bound = (lower_count a.upper.now a.lower.now a.window a.answer.now c.requires, h.first-there); passed = h.passed (omega arith) }

pub match_next-count-requires : goal.match_next-count-requires
match_next-count-requires c =
    let s = c.loop-i in
    let a = c.args in
    let k = c.skip-first.ensures in
    turnable a.upper.now a.lower.now a.window a.answer.now c.requires s.answer s.i _ s.count (omega arith) s.marks s.first s.invariant
    (omega (arith, k.there, length-reads a.lower.now)) k.passed

pub loop-i-preserved : goal.loop-i-preserved
loop-i-preserved c =
    let s = c.loop-i in
    let a = c.args in
    let l = length-reads a.lower.now in
    rw add-one
    (running_next a.upper.now a.lower.now a.window a.answer.now c.requires s.answer s.i _ _ (omega arith) _ _ s.invariant.written
    (omega (arith, l, c.skip-first.ensures.there)) c.match_next-count.ensures)

pub overflow_cast-result : goal.overflow_cast-result
overflow_cast-result c =
    let s = c.loop-i in
    let a = c.args in
    let few = lower_count a.upper.now a.lower.now a.window a.answer.now c.requires in
    omega (arith, few, s.invariant.counted, few_lower a.window (reads_of a.upper.now) (reads_of a.lower.now) s.i, length-reads a.lower.now)

pub returns : goal.returns
returns c =
    let s = c.loop-i in
    let a = c.args in
    let e : s.i ≡ length a.upper.now / 2 = omega arith in
    running_end a.upper.now a.lower.now a.window a.answer.now s.answer s.marks s.first s.count s.i e s.invariant
