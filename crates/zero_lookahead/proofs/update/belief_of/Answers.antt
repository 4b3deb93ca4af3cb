-- `zero_lookahead::update::belief_of` meets its contract.
use Rattle.zero_lookahead.specs.StepSingle.{sender_room, factor_other, sender_variable}
use Rattle.zero_lookahead.proofs.update.belief_of.Goals as goal

pub word-requires : goal.word-requires
word-requires c =
    let a = c.args in
    sender_room a.words.now a.evidence.now a.n c.requires

pub returns-then-word : goal.returns-then-word
returns-then-word c =
    let a = c.args in
    λ s t out P e h v. absurd (factor_other s t out a.evidence.now a.words.now P a.n c.word.result h c.word.ensures.0 c.if-word.true v)

pub initial_belief-requires : goal.initial_belief-requires
initial_belief-requires c =
    let a = c.args in
    sender_variable a.words.now a.evidence.now a.n c.word.result c.requires c.word.ensures.0 c.if-word.false

pub returns : goal.returns
returns c = c.initial_belief.ensures
