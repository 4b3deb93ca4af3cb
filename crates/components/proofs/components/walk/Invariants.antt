-- `components::walk` meets its contract: what is walked from the stack as it stands is the whole walk.
use Rattle.std.proofs.Common.{◌≡◌, ◌+◌}
use Rattle.components.specs.ComponentMemory.{memory}
use Rattle.components.specs.ComponentWalk.{walk_of, Walking, walked, zeros}
use Rattle.components.proofs.components.walk.Given as goal

abbrev pub invariant-loop-m : goal.invariant-loop-m
invariant-loop-m l = record {
  walking : Walking l.n l.e l.s l.at (walk_of (memory l.n l.e l.s l.words) l.m.count l.m.top);
  rest :
      walked l.n l.s l.at l.n (walk_of (memory l.n l.e l.s l.words) l.m.count l.m.top)
      ≡ walked l.n l.s l.at l.n (walk_of (memory l.n l.e l.s l.initial.words) l.initial.m.count l.initial.m.top);
}

abbrev pub decreases-loop-m : goal.decreases-loop-m
decreases-loop-m l = l.m.top + zeros (memory l.n l.e l.s l.words).node_numbers
