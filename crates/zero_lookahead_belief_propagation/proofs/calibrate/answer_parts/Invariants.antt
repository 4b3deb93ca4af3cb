-- `calibrate::answer_parts` meets its contract: before each turn what the parts so far yield is written, and the words up to the last record are as they were.
use Rattle.std.proofs.Common.{length}
use Rattle.zero_lookahead_belief_propagation.specs.Answered.{answers_with}
use Rattle.zero_lookahead_belief_propagation.specs.AnsweredPart.{settings_from}
use Rattle.zero_lookahead_belief_propagation.specs.AnsweredAll.{Loop}
use Rattle.zero_lookahead_belief_propagation.proofs.calibrate.answer_parts.Given as goal

abbrev pub invariant-loop-number : goal.invariant-loop-number
invariant-loop-number l =
    let s = l.initial in
    Loop (settings_from l.settings l.limit) l.start l.count l.end l.evidence (length s.w) s.words
    (answers_with s.belief_numbers s.belief_floats s.ending_numbers s.ending_floats) (length l.w) l.words
    (answers_with l.belief_numbers l.belief_floats l.ending_numbers l.ending_floats) l.at l.number l.beliefs l.endings
