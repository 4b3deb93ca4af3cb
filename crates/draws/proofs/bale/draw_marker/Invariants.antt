-- `bale::draw_marker` meets its contract. The loop's invariant: the marker has drawn against beta and so many times against alpha.
use Rattle.std.proofs.Common.{◌≡◌}
use Rattle.draws.specs.Model.{drawn_of, setting_in, read_drawn}
use Rattle.draws.specs.Present.{count_limits}
use Rattle.draws.proofs.bale.draw_marker.Given as goal

abbrev pub invariant-loop : goal.invariant-loop
invariant-loop l = drawn_of l.drawn ≡ read_drawn (count_limits (setting_in l.setting) l.counter) l.state
