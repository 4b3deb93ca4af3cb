-- `answer::answer_part` meets its contract.
use native.Mathlib.Omega.{arith}
use mathlib.Core.Path.{refl}
use Rattle.zero_lookahead_belief_propagation.specs.AnsweredOne.{counts-there, small_written, asked_large, endings_room, beliefs_small, large-written}
use Rattle.zero_lookahead_belief_propagation.proofs.answer.answer_part.Goals as goal

pub bounds-words-0 : goal.bounds-words-0
bounds-words-0 c =
    let x = c.requires.some_asked in
    omega (arith, counts-there _ x.bale _ _ _ _ _ _ x.part)

pub returns-then-words-le2 : goal.returns-then-words-le2
returns-then-words-le2 c = record { kept_front = refl; written = λ b h. small_written _ b _ _ _ _ _ _ h c.if-words-le2.true }

pub run_part-part-requires : goal.run_part-part-requires
run_part-part-requires c =
    let x = c.requires.some_asked in
    record { some_large = record { bale = x.bale; number = _; part = asked_large _ x.bale _ _ _ _ _ _ x.part c.if-words-le2.false } }

pub end_part-requires : goal.end_part-requires
end_part-requires c =
    let x = c.requires.some_asked in
    let h = c.if-words-le2.false in
    let r = c.run_part-part.ensures.part_runs x.bale _ (asked_large _ x.bale _ _ _ _ _ _ x.part h) in
    let e = endings_room _ x.bale _ _ _ _ _ _ x.part h in
    (e.0, e.1, rw r.believed.count_is (beliefs_small _ x.bale _ _ _ _ _ _ x.part h))

pub returns : goal.returns
returns c =
    let e = c.end_part.ensures in
    let r = c.run_part-part.ensures in
    let h = c.if-words-le2.false in
    record { kept_front = r.kept_front; written = λ b a. large-written _ b _ _ _ _ _ _ a h _ _ _ _ (r.part_runs b _ (asked_large _ b _ _ _ _ _ _ a h)) e.numbers_after e.floats_after }
