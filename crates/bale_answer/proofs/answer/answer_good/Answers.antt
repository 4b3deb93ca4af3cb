-- `answer::answer_good` meets its contract.
use Rattle.bale_answer.specs.Good.{small_result}
use Rattle.bale_answer.proofs.answer.answer_good.Goals as goal
use Rattle.std.proofs.Common.{◌∙◌}

pub returns : goal.returns
returns c =
    let e = c.call_words.ensures in
    let sizes = c.requires.ending_floats_value in
    λ bs h. e.ending_floats_after ∙ small_result bs _ _ _ h _ _ _ sizes e.evidence_after.0 e.evidence_after.1
