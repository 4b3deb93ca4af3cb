-- `tally::add_answer` meets its contract.
use Rattle.std.proofs.Common.{arith}
use lib.Ieee.{of_bits}
use Rattle.bale_answer.specs.Answering.{lent-sizes}
use Rattle.tonnage.specs.Answering.{none-added, few, numbers_count, numbers_fit, floats_count, some_addable, some-added}
use Rattle.tonnage.proofs.tally.add_answer.Goals as goal

pub answer_bale-answered-requires-clause-ending_floats_value : goal.answer_bale-answered-requires-clause-ending_floats_value
unfolding of_bits
answer_bale-answered-requires-clause-ending_floats_value c = lent-sizes _ _ c.requires.work_floats_len.0 c.requires.work_floats_len.1

pub returns-in_default : goal.returns-in_default
unfolding of_bits
returns-in_default c bs t = none-added bs _ _ _ _ (c.answer_bale-answered.ensures bs t) _ c.in_default.is 0 _

pub slice_bounds-numbers-end : goal.slice_bounds-numbers-end
unfolding of_bits
slice_bounds-numbers-end c = let x = c.requires.some_taken in numbers_fit x.bytes _ _ _ _ (c.answer_bale-answered.ensures x.bytes x.taken) _ c.in-Ok.is

pub slice_bounds-add_bale-end : goal.slice_bounds-add_bale-end
unfolding of_bits
slice_bounds-add_bale-end c = let x = c.requires.some_taken in numbers_count x.bytes _ _ _ _ (c.answer_bale-answered.ensures x.bytes x.taken) _ c.in-Ok.is

pub slice_bounds-floats-end : goal.slice_bounds-floats-end
unfolding of_bits
slice_bounds-floats-end c =
    let x = c.requires.some_taken in
    omega (arith, few x.bytes _ _ _ _ (c.answer_bale-answered.ensures x.bytes x.taken) _ c.in-Ok.is)

pub slice_bounds-add_bale-end-2 : goal.slice_bounds-add_bale-end-2
unfolding of_bits
slice_bounds-add_bale-end-2 c = let x = c.requires.some_taken in floats_count x.bytes _ _ _ _ (c.answer_bale-answered.ensures x.bytes x.taken) _ c.in-Ok.is

pub add_bale-requires : goal.add_bale-requires
unfolding of_bits
add_bale-requires c =
    let x = c.requires.some_taken in
    some_addable x.bytes _ _ _ _ (c.answer_bale-answered.ensures x.bytes x.taken) _ c.in-Ok.is _ _ c.requires.kilograms_bound.0 c.requires.kilograms_bound.1

pub returns : goal.returns
unfolding of_bits
returns c bs t = some-added bs _ _ _ _ (c.answer_bale-answered.ensures bs t) _ c.in-Ok.is _ _ _ c.add_bale.ensures
