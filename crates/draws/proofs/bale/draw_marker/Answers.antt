-- `bale::draw_marker` meets its contract. The loop's invariant: the marker has drawn against beta and so many times against alpha.
use Rattle.std.proofs.Common.{◌∙◌}
use Rattle.draws.specs.Model.{drawn_of, setting_in}
use Rattle.draws.specs.Turns.{marker_none, marker_turn}
use Rattle.draws.proofs.bale.draw_marker.Goals as goal

pub loop-init : goal.loop-init
loop-init c = let a = c.args in c.draw-drawn.ensures ∙ marker_none (setting_in a.setting) a.state

pub loop-preserved : goal.loop-preserved
loop-preserved c =
    let s = c.loop in
    let a = c.args in
    c.draw_also-drawn.ensures ∙ marker_turn (setting_in a.setting) a.state s.counter (drawn_of s.drawn) s.invariant
