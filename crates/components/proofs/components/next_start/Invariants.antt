-- `components::next_start` meets its contract: what is searched from `from` on is what is searched from i on.
use Rattle.std.proofs.Common.{◌≡◌, ◌-◌}
use Rattle.components.specs.ComponentMemory.{memory}
use Rattle.components.specs.ComponentStep.{next_free}
use Rattle.components.proofs.components.next_start.Given as goal

abbrev pub invariant-loop-i : goal.invariant-loop-i
invariant-loop-i l = next_free (memory l.n l.e l.s l.words).node_numbers l.from (l.n - l.from) ≡ next_free (memory l.n l.e l.s l.words).node_numbers l.i (l.n - l.i)
