-- `tally::weigh_bale` meets its contract.
use Rattle.std.proofs.Common.{[], arith}
use Rattle.tonnage.specs.Answering.{added-as}
use Rattle.tonnage.specs.Tallies.{bale-most, not_heavy, lines_few, sums-low}
use Rattle.tonnage.specs.Turns.{stands_as, holds_on, holds_none, holds_next}
use Rattle.tonnage.proofs.tally.weigh_bale.Goals as goal

pub overflow_add-ended : goal.overflow_add-ended
overflow_add-ended c =
    let w = stands_as _ _ _ _ c.requires.some_tally.holds _ c.in-Waiting.is in
    omega (arith, w.ahead, bale-most _ _ [] _ _ _ _ _ _ w)

pub returns-then-tally-line : goal.returns-then-tally-line
returns-then-tally-line c es bs h t = holds_on _ es bs _ _ h _ c.in-Waiting.is c.if-tally-line.true

pub add_answer-answered-requires-clause-kilograms_bound : goal.add_answer-answered-requires-clause-kilograms_bound
add_answer-answered-requires-clause-kilograms_bound c =
    let w = stands_as _ _ _ _ c.requires.some_tally.holds _ c.in-Waiting.is in
    (not_heavy _ _ [] _ _ _ _ _ _ w, sums-low _ _ [] _ _ _ _ _ _ w)

pub returns-then-not-answered : goal.returns-then-not-answered
returns-then-not-answered c es bs h t =
    let r = c.add_answer-answered in
    let a = added-as bs c.in-Waiting.line.kilograms _ _ r.result _ c.if-not-answered.true (r.ensures bs t) in
    holds_none _ es bs _ _ h _ c.in-Waiting.is c.if-tally-line.false _ a

pub overflow_add-line : goal.overflow_add-line
overflow_add-line c =
    let w = stands_as _ _ _ _ c.requires.some_tally.holds _ c.in-Waiting.is in
    omega (arith, bale-most _ _ [] _ _ _ _ _ _ w)

pub overflow_add-result : goal.overflow_add-result
overflow_add-result c =
    let w = stands_as _ _ _ _ c.requires.some_tally.holds _ c.in-Waiting.is in
    omega (arith, lines_few _ _ [] _ _ _ _ _ _ w)

pub returns-else-not-answered : goal.returns-else-not-answered
returns-else-not-answered c es bs h t =
    let r = c.add_answer-answered in
    let a = added-as bs c.in-Waiting.line.kilograms _ _ r.result _ c.if-not-answered.false (r.ensures bs t) in
    holds_next _ es bs _ _ h _ c.in-Waiting.is c.if-tally-line.false _ a _ c.standing_at-next.ensures
