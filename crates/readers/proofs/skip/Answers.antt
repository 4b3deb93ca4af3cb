-- `readers::skip` meets its contract. The loop's invariant: all lower reads before this one are passed.
use Rattle.std.proofs.Common.{◌≡◌, ◌/◌, length, arith, sym, subst, ◌∙◌}
use Rattle.definition.specs.Readers.{reads_of}
use Rattle.readers.specs.Slices.{length-reads}
use Rattle.readers.specs.Scan.{Passed}
use Rattle.readers.proofs.skip.Goals as goal

pub returns-then-not-is_passed : goal.returns-then-not-is_passed
returns-then-not-is_passed c =
    record {
      there = omega (arith, length-reads c.args.lower.now);
      passed = c.loop-j.invariant;
      stops = λ l. sym c.is_passed.ensures ∙ c.if-not-is_passed.true;
    }

pub returns : goal.returns
returns c =
    let a = c.args in
    let n = length-reads a.lower.now in
    let e : c.loop-j.j ≡ length a.lower.now / 2 = omega (arith, c.requires.lower_len_bound.1) in
    record {
      there = omega arith;
      passed = subst (Passed a.window (reads_of a.lower.now) a.marks.now a.tick) e c.loop-j.invariant;
      stops = λ l. absurd (let z : ⊥ = omega arith in z);
    }
