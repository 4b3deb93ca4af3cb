-- `array_utils::table::table_entries` meets its contract: after i turns the first i entries are those of the table.
use Rattle.std.proofs.Common.{◌≡◌}
use Rattle.list_laws.specs.Write.{write}
use Rattle.definition.specs.Floats.{log_table_entry}
use Rattle.array_utils.proofs.table.table_entries.Given as goal

abbrev pub invariant-loop-i : goal.invariant-loop-i
invariant-loop-i l = l.entries ≡ write l.initial.entries 0 l.i log_table_entry
