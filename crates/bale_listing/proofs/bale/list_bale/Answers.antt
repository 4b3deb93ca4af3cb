-- `bale::list_bale` meets its contract.
use Rattle.std.proofs.Common.{arith, rules, ◌^◌, ◌<◌}
use lib.Ieee.{of_bits}
use Rattle.listing.specs.Sizes.{refusal-short}
use Rattle.bale_answer.specs.Answering.{lent-sizes}
use Rattle.bale_listing.specs.Answered.{refused_listed, bale-fits, some-parts, both-listed}
use Rattle.bale_listing.proofs.bale.list_bale.Goals as goal

pub answer_bale-answered-requires-clause-ending_floats_value : goal.answer_bale-answered-requires-clause-ending_floats_value
unfolding of_bits
answer_bale-answered-requires-clause-ending_floats_value c = lent-sizes _ _ c.requires.work_floats_len.0 c.requires.work_floats_len.1

pub put_refusal-requires : goal.put_refusal-requires
put_refusal-requires c =
    let n : c.number.result < 2 ^ 32 = search rules in
    let p : c.in-Err.refusal.place < 2 ^ 64 = search rules in
    omega (arith, refusal-short _ _ n p, c.requires.work_floats_len.2)

pub put_bale-k-requires : goal.put_bale-k-requires
unfolding of_bits
put_bale-k-requires c =
    let x = c.requires.some_taken in
    bale-fits x.bytes _ _ _ _ (c.answer_bale-answered.ensures x.bytes x.taken) _ _ _ x.taken _ c.in-Ok.is _ c.grade_count-grades.ensures c.args.out.now c.requires.work_floats_len.2

pub put_parts-requires : goal.put_parts-requires
unfolding of_bits
put_parts-requires c =
    let x = c.requires.some_taken in
    some-parts x.bytes _ _ _ _ (c.answer_bale-answered.ensures x.bytes x.taken) _ _ _ x.taken _ c.in-Ok.is _ c.grade_count-grades.ensures c.args.out.now
    c.requires.work_floats_len.2 _ _ c.put_bale-k.ensures

pub returns-in-Err : goal.returns-in-Err
unfolding of_bits
returns-in-Err c bs t = refused_listed bs _ _ _ _ (c.answer_bale-answered.ensures bs t) _ c.in-Err.is _ _ _ (rw c.number.ensures at c.put_refusal.ensures)

pub returns-in-Ok : goal.returns-in-Ok
unfolding of_bits
returns-in-Ok c bs t =
    both-listed bs _ _ _ _ (c.answer_bale-answered.ensures bs t) _ _ _ t _ c.in-Ok.is _ c.grade_count-grades.ensures c.args.out.now
    c.requires.work_floats_len.2 _ _ c.put_bale-k.ensures _ _ c.put_parts.ensures
