-- `answer::end_part` meets its contract.
use native.Mathlib.Omega.{arith}
use lib.ListN.{length-set}
use Rattle.zero_lookahead_belief_propagation.specs.AnsweredPart.{four_stored, one_stored}
use Rattle.zero_lookahead_belief_propagation.proofs.answer.end_part.Goals as goal

pub bounds-numbers-1 : goal.bounds-numbers-1
bounds-numbers-1 c = simp length-set (omega arith)

pub bounds-numbers-2 : goal.bounds-numbers-2
bounds-numbers-2 c = simp length-set (omega arith)

pub returns : goal.returns
returns c =
    let e = c.from-e.ensures in
    record { numbers_after = rw e.0 (four_stored _ _ _ _ c.args.numbers.now c.requires.0); floats_after = rw e.1 (one_stored _ c.args.floats.now c.requires.1) }
