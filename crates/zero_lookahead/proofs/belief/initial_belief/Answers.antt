-- `zero_lookahead::belief::initial_belief` meets its contract.
use Rattle.std.proofs.Common.{◌∙◌}
use Rattle.zero_lookahead.specs.Variable.{evidence-there, input_read, grade_belief}
use Rattle.zero_lookahead.proofs.belief.initial_belief.Goals as goal

pub read-requires : goal.read-requires
read-requires c =
    let a = c.args in
    evidence-there a.words.now a.evidence.now a.n c.word.result c.word-nodes.result c.word-then-word.result c.word.ensures.0 c.word-nodes.ensures.0
    c.word-then-word.ensures.0 c.requires c.if-word.true

pub returns-then-word : goal.returns-then-word
returns-then-word c =
    let a = c.args in
    let m = c.read.ensures.entries in
    λ s t out P e h v.
    rw (m.0, m.1)
    (input_read a.words.now a.evidence.now a.n c.word.result c.word-nodes.result c.word-then-word.result c.word.ensures.0 c.word-nodes.ensures.0
    c.word-then-word.ensures.0 c.if-word.true s t out P h)

pub returns : goal.returns
returns c =
    let a = c.args in
    let b = c.from_prior.ensures in
    λ s t out P e h v. rw (b.absent, b.present) (grade_belief s t out a.evidence.now a.words.now P a.n h a.prior e
    (λ z. c.if-word.false (c.word.ensures.0 ∙ z)) v)
