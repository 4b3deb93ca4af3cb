-- `array_utils::table::LogTable::new` makes the table, by one computed test over the whole of LOG_TABLE.
use mathlib.Core.Path.{refl}
use Rattle.definition.specs.Floats.{log_table_number}
use Rattle.array_utils.specs.LogTable.{ruled}
use Rattle.array_utils.proofs.table.LogTable.new.Goals as goal

pub table_entries-requires : goal.table_entries-requires
unfolding ruled log_table_number
table_entries-requires c = record { count = refl; test = tt }
