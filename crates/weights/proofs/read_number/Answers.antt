-- `weights::read_number` meets its contract. The loop's invariant: what is read so far, and the bytes from place i on, give the whole number.
use Rattle.std.proofs.Common.{eq-eqb, ne_eqb}
use Rattle.weights.specs.Reading.{reading_next, reading_stops, reading_out, reading_nothing, reading_ends}
use Rattle.weights.proofs.read_number.Goals as goal

pub returns-in_err-value : goal.returns-in_err-value
returns-in_err-value c = rw c.from_residual.ensures (reading_nothing c.loop-i.invariant c.loop-i-test.true (eq-eqb _ _ c.if-byte-end.true) c.in_err-value.was)

pub returns-then-byte-end : goal.returns-then-byte-end
returns-then-byte-end c =
    reading_ends c.loop-i.invariant c.loop-i.auto.i c.loop-i-test.true (eq-eqb _ _ c.if-byte-end.true) c.in_ok-value.was

pub returns-in_err-more : goal.returns-in_err-more
returns-in_err-more c =
    rw c.from_residual-in_err-more.ensures
    (reading_stops c.loop-i.invariant c.loop-i-test.true (ne_eqb _ _ c.if-byte-end.false) c.in_err-more.ensures)

pub loop-i-preserved : goal.loop-i-preserved
loop-i-preserved c = reading_next c.loop-i.invariant c.loop-i-test.true (ne_eqb _ _ c.if-byte-end.false) c.in_ok-more.ensures

pub returns : goal.returns
returns c = reading_out c.loop-i.invariant c.loop-i-test.false
