-- `messages::residuals::residual_vector` meets its contract: what is left, from the largest so far, makes the whole.
use Rattle.std.proofs.Common.{◌∙◌, refl, sym}
use Rattle.std.specs.Float.Ieee.{of_bits, div, neg}
use Rattle.messages.specs.Residual.{vector_turn, vector_all}
use Rattle.messages.proofs.residuals.residual_vector.Goals as goal

pub loop-i-init : goal.loop-i-init
unfolding of_bits neg div
loop-i-init c = refl

pub loop-i-preserved : goal.loop-i-preserved
loop-i-preserved c =
    let s = c.loop-i in
    vector_turn c.args.m.now c.args.o.now s.i s.largest _ _ c.loop-i-test.true c.requires.m_len c.abs_log_ratio.ensures c.max-largest.ensures ∙ s.invariant

pub returns : goal.returns
returns c =
    let s = c.loop-i in
    sym (vector_all c.args.m.now c.args.o.now s.i s.largest c.loop-i-test.false) ∙ s.invariant
