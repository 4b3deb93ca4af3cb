-- `records::number_edges` meets its contract: after i turns the edges in the first i slots have their numbers.
use Rattle.std.proofs.Common.{◌≡◌}
use Rattle.components.specs.ComponentMemory.{memory}
use Rattle.components.specs.ComponentRecord.{seen_of, see_slots}
use Rattle.components.proofs.records.number_edges.Given as goal

abbrev pub invariant-loop-i : goal.invariant-loop-i
invariant-loop-i l = seen_of (memory l.n l.e l.s l.words) l.count ≡ see_slots l.n l.s l.from l.to l.i (seen_of (memory l.n l.e l.s l.initial.words) 0)
