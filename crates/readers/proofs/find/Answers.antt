-- `readers::find` meets its contract. The loop's invariant: no lower read before this one is open.
use Rattle.std.proofs.Common.{◌<◌, length, arith, sym, ◌∙◌, ltb-true}
use Rattle.definition.specs.Readers.{reads_of}
use Rattle.checks.specs.Searching.{reached_next, reached_here, reached_end, reached_stop}
use Rattle.readers.specs.Slices.{length-reads}
use Rattle.readers.specs.Scan.{read_of, open_tests, open_count, open_test, passed_reached, late_tests}
use Rattle.readers.proofs.find.Goals as goal

pub loop-j-init : goal.loop-j-init
loop-j-init c =
    let a = c.args in
    let l = length-reads a.lower.now in
    passed_reached a.window (reads_of a.lower.now) a.marks.now (read_of a.tick a.marker) a.first (omega (arith, l, c.requires.lower_len_bound.1)) c.requires.passed

pub returns-then-is_long_before : goal.returns-then-is_long_before
returns-then-is_long_before c =
    let s = c.loop-j in
    let a = c.args in
    reached_stop _ s.j s.invariant
    (late_tests a.window a.lower.now a.marks.now (read_of a.tick a.marker) c.requires.lower_len_bound.2 s.j (omega arith)
    (ltb-true _ _ (sym c.is_long_before.ensures ∙ c.if-is_long_before.true)))

pub returns-then-is_open : goal.returns-then-is_open
returns-then-is_open c =
    let s = c.loop-j in
    let a = c.args in
    let l : s.j < length (reads_of a.lower.now) = omega (arith, length-reads a.lower.now) in
    let u = read_of a.tick a.marker in
    let t = open_test a.window (reads_of a.lower.now) a.marks.now u s.j l in
    reached_here _ s.j (omega (arith, open_count a.window (reads_of a.lower.now) a.marks.now u)) (t ∙ sym c.is_open.ensures ∙ c.if-is_open.true) s.invariant

pub loop-j-preserved : goal.loop-j-preserved
loop-j-preserved c =
    let s = c.loop-j in
    let a = c.args in
    let l : s.j < length (reads_of a.lower.now) = omega (arith, length-reads a.lower.now) in
    let u = read_of a.tick a.marker in
    let n = open_count a.window (reads_of a.lower.now) a.marks.now u in
    let k : s.j < length (open_tests a.window (reads_of a.lower.now) a.marks.now u) = omega (arith, n) in
    let t = open_test a.window (reads_of a.lower.now) a.marks.now u s.j l in
    reached_next _ s.j k (t ∙ sym c.is_open.ensures ∙ c.if-is_open.false) s.invariant

pub returns : goal.returns
returns c =
    let a = c.args in
    let n = open_count a.window (reads_of a.lower.now) a.marks.now (read_of a.tick a.marker) in
    reached_end _ c.loop-j.j (omega (arith, n, length-reads a.lower.now)) c.loop-j.invariant
