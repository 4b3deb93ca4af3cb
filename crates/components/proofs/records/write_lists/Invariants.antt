-- `records::write_lists` meets its contract: after i turns the lists of the first i nodes are written, with `total` slots.
use Rattle.std.proofs.Common.{◌≡◌}
use Rattle.components.specs.ComponentMemory.{memory, with_out}
use Rattle.components.specs.ComponentRecord.{slots_of, lists}
use Rattle.components.proofs.records.write_lists.Given as goal

abbrev pub invariant-loop-i : goal.invariant-loop-i
invariant-loop-i l = record {
  written : memory l.n l.e l.s l.words ≡ with_out (memory l.n l.e l.s l.initial.words) (lists l.n l.s l.at l.count (memory l.n l.e l.s l.initial.words).graph (memory l.n l.e l.s l.initial.words).out l.i);
  slots : slots_of l.n l.s l.at l.count (memory l.n l.e l.s l.initial.words).graph (memory l.n l.e l.s l.initial.words).out l.i ≡ l.total;
}
