-- `checks::check_repeated` meets its contract. The loop's invariant: the marks are those of the pairs passed, none of which was given before.
use Rattle.std.proofs.Common.{ℕ, ◌/◌, ◌<◌, [], length, replicate, arith, sym, ◌∙◌}
use Rattle.std.proofs.Math.ListN.{length-set}
use Rattle.std.proofs.lemmas.List.{length-replicate}
use Rattle.definition.specs.Refusals.{pairs_of, repeated_pairs}
use Rattle.checks.specs.Slices.{zeros}
use Rattle.checks.specs.Marks.{marked-first, marked_next, repeated_test, repeated_count, digit_clear}
use Rattle.checks.specs.Searching.{reached_first, reached_next, reached_here, reached_end}
use Rattle.checks.proofs.check_repeated.Goals as goal

pub loop-i-init : goal.loop-i-init
loop-i-init c =
    record { words = length-replicate {A = ℕ} 32768 0; marked = marked-first (replicate 32768 0) _ (zeros 32768); reached = reached_first _ }

pub returns-then-has_mark : goal.returns-then-has_mark
returns-then-has_mark c =
    let s = c.loop-i in
    let same = repeated_test s.marks c.args.pairs.now s.i c.cell-k.result (omega arith) c.requires.in_grid c.cell-k.ensures.0 s.invariant.marked in
    reached_here _ s.i (omega (arith, repeated_count c.args.pairs.now)) (sym same ∙ sym c.has_mark.ensures ∙ c.if-has_mark.true) s.invariant.reached

pub with_mark-requires : goal.with_mark-requires
with_mark-requires c = (omega arith, digit_clear _ _ (sym c.has_mark.ensures ∙ c.if-has_mark.false))

pub loop-i-preserved : goal.loop-i-preserved
loop-i-preserved c =
    let s = c.loop-i in
    let h = s.invariant in
    let below : s.i < length c.args.pairs.now / 2 = omega arith in
    let same = repeated_test s.marks c.args.pairs.now s.i c.cell-k.result below c.requires.in_grid c.cell-k.ensures.0 h.marked in
    let l : s.i < length (repeated_pairs [] (pairs_of c.args.pairs.now)) = omega (arith, repeated_count c.args.pairs.now) in
    let t = sym c.has_mark.ensures ∙ c.if-has_mark.false in
    record {
      words = simp length-set h.words;
      marked =
          rw c.with_mark.ensures
          (marked_next s.marks _ s.i c.cell-k.result below c.requires.in_grid c.cell-k.ensures.0 h.marked h.words (digit_clear _ _ t));
      reached = reached_next _ s.i l (sym same ∙ t) h.reached;
    }

pub returns : goal.returns
returns c = reached_end _ c.loop-i.i (omega (arith, repeated_count c.args.pairs.now)) c.loop-i.invariant.reached
