-- `calibrate::answer_parts` meets its contract: before each turn what the parts so far yield is written, and the words up to the last record are as they were.
use Rattle.std.proofs.Common.{ℕ, ◌+◌, ◌<◌, List, Float, arith, ap}
use Rattle.definition.specs.Settings.{Settings}
use Rattle.zero_lookahead_belief_propagation.specs.Answered.{Answers}
use Rattle.zero_lookahead_belief_propagation.specs.AnsweredAll.{SomeCut, Loop, loop-begins, loop-ends}
use Rattle.zero_lookahead_belief_propagation.specs.AnsweredStep.{Turn, turn, step_asks, counts_fit, loop-next}
use Rattle.zero_lookahead_belief_propagation.proofs.calibrate.answer_parts.Goals as goal

found :
    {s : Settings} {start count end : ℕ} {evidence : List Float} {floats₀ : ℕ} {words₀ : List ℕ} {l₀ : Answers} {floats : ℕ} {words : List ℕ} {l : Answers}
    {at number beliefs endings : ℕ} →
    Loop s start count end evidence floats₀ words₀ l₀ floats words l at number beliefs endings → number < count → SomeCut s start count end evidence words₀ floats₀ l₀ →
    Turn end words l at number beliefs endings
found L h Y = turn _ _ _ _ _ _ _ _ _ _ _ _ _ _ _ L h Y.bale Y.cut

pub loop-number-init : goal.loop-number-init
loop-number-init c = loop-begins _ _ _ _ _ _ _ _

pub record_len-requires : goal.record_len-requires
record_len-requires c = omega (arith, found c.loop-number.invariant c.loop-number-test.true c.requires.some_cut)

pub overflow_add-next : goal.overflow_add-next
overflow_add-next c = omega (arith, found c.loop-number.invariant c.loop-number-test.true c.requires.some_cut, c.record_len.ensures)

pub overflow_sub-out : goal.overflow_sub-out
overflow_sub-out c = omega (arith, found c.loop-number.invariant c.loop-number-test.true c.requires.some_cut)

pub overflow_mul-belief_at : goal.overflow_mul-belief_at
overflow_mul-belief_at c = omega (arith, found c.loop-number.invariant c.loop-number-test.true c.requires.some_cut)

pub overflow_mul-ending_at : goal.overflow_mul-ending_at
overflow_mul-ending_at c = omega (arith, found c.loop-number.invariant c.loop-number-test.true c.requires.some_cut)

pub offset_bounds-words-at : goal.offset_bounds-words-at
offset_bounds-words-at c = omega (arith, found c.loop-number.invariant c.loop-number-test.true c.requires.some_cut)

pub slice_bounds-answer_part-count : goal.slice_bounds-answer_part-count
slice_bounds-answer_part-count c = omega (arith, found c.loop-number.invariant c.loop-number-test.true c.requires.some_cut)

pub slice_bounds-answer_part-start : goal.slice_bounds-answer_part-start
slice_bounds-answer_part-start c = omega (arith, found c.loop-number.invariant c.loop-number-test.true c.requires.some_cut)

pub overflow_cast-number : goal.overflow_cast-number
overflow_cast-number c = omega (arith, found c.loop-number.invariant c.loop-number-test.true c.requires.some_cut)

pub offset_bounds-belief_numbers-beliefs : goal.offset_bounds-belief_numbers-beliefs
offset_bounds-belief_numbers-beliefs c = omega (arith, found c.loop-number.invariant c.loop-number-test.true c.requires.some_cut)

pub slice_bounds-answer_part-count-in-loop-number : goal.slice_bounds-answer_part-count-in-loop-number
slice_bounds-answer_part-count-in-loop-number c = omega (arith, found c.loop-number.invariant c.loop-number-test.true c.requires.some_cut)

pub slice_bounds-answer_part-start-in-loop-number : goal.slice_bounds-answer_part-start-in-loop-number
slice_bounds-answer_part-start-in-loop-number c = omega (arith, found c.loop-number.invariant c.loop-number-test.true c.requires.some_cut)

pub offset_bounds-belief_floats-belief_at : goal.offset_bounds-belief_floats-belief_at
offset_bounds-belief_floats-belief_at c = omega (arith, found c.loop-number.invariant c.loop-number-test.true c.requires.some_cut)

pub slice_bounds-answer_part-count-in-loop-number-2 : goal.slice_bounds-answer_part-count-in-loop-number-2
slice_bounds-answer_part-count-in-loop-number-2 c = omega (arith, found c.loop-number.invariant c.loop-number-test.true c.requires.some_cut)

pub slice_bounds-answer_part-start-in-loop-number-2 : goal.slice_bounds-answer_part-start-in-loop-number-2
slice_bounds-answer_part-start-in-loop-number-2 c = omega (arith, found c.loop-number.invariant c.loop-number-test.true c.requires.some_cut)

pub offset_bounds-ending_numbers-ending_at : goal.offset_bounds-ending_numbers-ending_at
offset_bounds-ending_numbers-ending_at c = omega (arith, found c.loop-number.invariant c.loop-number-test.true c.requires.some_cut)

pub slice_bounds-answer_part-count-in-loop-number-3 : goal.slice_bounds-answer_part-count-in-loop-number-3
slice_bounds-answer_part-count-in-loop-number-3 c = omega (arith, found c.loop-number.invariant c.loop-number-test.true c.requires.some_cut)

pub slice_bounds-answer_part-start-in-loop-number-3 : goal.slice_bounds-answer_part-start-in-loop-number-3
slice_bounds-answer_part-start-in-loop-number-3 c = omega (arith, found c.loop-number.invariant c.loop-number-test.true c.requires.some_cut)

pub offset_bounds-ending_floats-endings : goal.offset_bounds-ending_floats-endings
offset_bounds-ending_floats-endings c = omega (arith, found c.loop-number.invariant c.loop-number-test.true c.requires.some_cut)

pub slice_bounds-answer_part-count-in-loop-number-4 : goal.slice_bounds-answer_part-count-in-loop-number-4
slice_bounds-answer_part-count-in-loop-number-4 c = omega (arith, found c.loop-number.invariant c.loop-number-test.true c.requires.some_cut)

pub slice_bounds-answer_part-start-in-loop-number-4 : goal.slice_bounds-answer_part-start-in-loop-number-4
slice_bounds-answer_part-start-in-loop-number-4 c = omega (arith, found c.loop-number.invariant c.loop-number-test.true c.requires.some_cut)

pub answer_part-counts-requires : goal.answer_part-counts-requires
answer_part-counts-requires c =
    let x = c.requires.some_cut in
    record {
      some_asked = record { bale = x.bale; part = step_asks _ _ _ _ _ _ _ _ _ _ _ _ _ _ _ c.loop-number.invariant c.loop-number-test.true x.bale x.cut };
    }

pub overflow_add-beliefs : goal.overflow_add-beliefs
overflow_add-beliefs c =
    let x = c.requires.some_cut in
    let t = c.loop-number in
    let h = c.loop-number-test.true in
    let asks = step_asks _ _ _ _ _ _ _ _ _ _ _ _ _ _ _ t.invariant h x.bale x.cut in
    omega (arith, (counts_fit _ _ _ _ _ _ _ _ _ _ _ _ _ _ _ t.invariant h x.bale x.cut _ _ _ (c.answer_part-counts.ensures.written x.bale asks)).0)

pub overflow_add-endings : goal.overflow_add-endings
overflow_add-endings c =
    let x = c.requires.some_cut in
    let t = c.loop-number in
    let h = c.loop-number-test.true in
    let asks = step_asks _ _ _ _ _ _ _ _ _ _ _ _ _ _ _ t.invariant h x.bale x.cut in
    omega (arith, (counts_fit _ _ _ _ _ _ _ _ _ _ _ _ _ _ _ t.invariant h x.bale x.cut _ _ _ (c.answer_part-counts.ensures.written x.bale asks)).1)

pub loop-number-preserved : goal.loop-number-preserved
loop-number-preserved c =
    let t = c.loop-number in
    let r = c.answer_part-counts in
    loop-next _ _ _ _ _ _ _ _ _ _ _ _ _ _ _ t.invariant c.loop-number-test.true c.requires.some_cut _ _ _ _ _ _ r.auto.w
    (ap (λ (n : ℕ). t.at + n) c.record_len.ensures) r.auto.words r.ensures.kept_front
    (record {
      belief_numbers = r.auto.belief_numbers;
      belief_floats = r.auto.belief_floats;
      ending_numbers = r.auto.ending_numbers;
      ending_floats = r.auto.ending_floats;
    })
    r.ensures.written

pub returns : goal.returns
returns c = λ b h. loop-ends _ _ _ _ _ _ _ _ _ _ _ _ _ _ _ c.loop-number.invariant c.loop-number-test.false b h
