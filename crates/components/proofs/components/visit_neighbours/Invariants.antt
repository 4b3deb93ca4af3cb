-- `components::visit_neighbours` meets its contract: before turn i the slots from the first of v up to i are visited.
use Rattle.std.proofs.Common.{◌≡◌, ◌-◌}
use Rattle.components.specs.ComponentMemory.{memory}
use Rattle.components.specs.ComponentWalk.{walk_of, first_of, visit_slots}
use Rattle.components.proofs.components.visit_neighbours.Given as goal

abbrev pub invariant-loop-i : goal.invariant-loop-i
invariant-loop-i l =
    walk_of (memory l.n l.e l.s l.words) l.m.count l.m.top
    ≡ visit_slots l.n l.s l.at (memory l.n l.e l.s l.initial.words).graph l.v (first_of l.n l.s l.initial.words l.v) (l.i - first_of l.n l.s l.initial.words l.v)
    (walk_of (memory l.n l.e l.s l.initial.words) l.initial.m.count l.initial.m.top)
