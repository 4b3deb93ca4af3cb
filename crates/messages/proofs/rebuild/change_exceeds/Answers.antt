-- `messages::rebuild::change_exceeds` meets its contract: what is left of both, from the sum so far, decides.
use Rattle.std.proofs.Common.{◌≡◌, ◌∙◌, ap}
use Rattle.std.specs.Prelude.{Float}
use Rattle.std.specs.Float.Ieee.{of_bits}
use Rattle.definition.specs.Floats.{◌⊕◌}
use Rattle.definition.specs.Vectors.{Message}
use Rattle.definition.specs.Directions.{message_at}
use Rattle.definition.specs.Messages.{message_change}
use Rattle.messages.specs.Pairs.{pairs}
use Rattle.messages.specs.Rebuild.{change_turn, change_over, change_none}
use Rattle.messages.proofs.rebuild.change_exceeds.Goals as goal
use Rattle.messages.proofs.rebuild.change_exceeds.Goals.{After-message_change-change}

moved : (a b x y : Message) → a ≡ x → b ≡ y → message_change a b ≡ message_change x y
moved a b x y e f = rw (e, f)

abbrev moved_by : After-message_change-change → Float
moved_by c = message_change (message_at c.loop-i.i (pairs c.args.rows.now)) (message_at c.loop-i.i (pairs c.args.old.now))

added : (c : After-message_change-change) → c.loop-i.change ⊕ c.message_change-change.result ≡ c.loop-i.change ⊕ moved_by c
added c = ap (λ (z : Float). c.loop-i.change ⊕ z) (c.message_change-change.ensures ∙ moved _ _ _ _ c.message_at.ensures c.message_at-in-loop-i.ensures)

pub returns-then-tolerance-change : goal.returns-then-tolerance-change
unfolding of_bits
returns-then-tolerance-change c =
    let s = c.loop-i in
    change_over c.args.tolerance c.args.rows.now c.args.old.now s.i c.loop-i-test.true c.requires.rows_len s.change _
    (added (goal.at.returns-then-tolerance-change c).After-message_change-change) c.if-tolerance-change.true ∙ s.invariant

pub loop-i-preserved : goal.loop-i-preserved
unfolding of_bits
loop-i-preserved c =
    let s = c.loop-i in
    change_turn c.args.tolerance c.args.rows.now c.args.old.now s.i c.loop-i-test.true c.requires.rows_len s.change _
    (added (goal.at.loop-i-preserved c).After-message_change-change) c.if-tolerance-change.false ∙ s.invariant

pub returns : goal.returns
returns c =
    let s = c.loop-i in
    change_none c.args.tolerance s.change c.args.rows.now c.args.old.now s.i c.loop-i-test.false ∙ s.invariant
