-- `array_utils::table::table_entries` meets its contract: after i turns the first i entries are those of the table.
use Rattle.std.proofs.Common.{false, arith, get_or}
use Rattle.std.proofs.lemmas.List.{length-replicate}
use Rattle.std.specs.Float.{nan}
use lib.IntN.{pos}
use lib.Ieee.{fin, binary32, of_bits, in_float}
use Rattle.list_laws.specs.Write.{write-none}
use Rattle.list_laws.specs.Whole.{start-next}
use Rattle.definition.specs.Floats.{◌⊘◌, of_nat, log_table_entry}
use Rattle.array_utils.specs.Counts.{count_written}
use Rattle.array_utils.specs.LogTable.{number_small, entry-is, log_table}
use Rattle.array_utils.proofs.table.table_entries.Goals as goal

pub loop-i-init : goal.loop-i-init
loop-i-init c = write-none _ _ _

pub int_to_float-entries : goal.int_to_float-entries
unfolding in_float
int_to_float-entries c = number_small c.args.numbers.now c.requires c.loop-i.i (omega arith)

pub loop-i-preserved : goal.loop-i-preserved
unfolding of_bits
loop-i-preserved c =
    let l = c.loop-i in
    let number = get_or c.args.numbers.now l.i 0 in
    start-next _ l.entries log_table_entry l.i (of_nat number ⊘ fin false 1 (pos 24)) l.invariant (entry-is c.args.numbers.now c.requires l.i (omega arith))

pub returns : goal.returns
unfolding log_table
returns c =
    let l = c.loop-i in
    count_written log_table_entry nan _ l.entries l.i 1025 l.invariant (omega arith) (length-replicate 1025 (of_bits binary32 0))
