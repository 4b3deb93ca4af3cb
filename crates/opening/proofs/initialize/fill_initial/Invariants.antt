-- `opening::initialize::fill_initial` meets its contract: the messages of the first d directions stand.
use Rattle.std.proofs.Common.{List}
use Rattle.definition.specs.Directions.{Direction}
use Rattle.opening.specs.OpenRows.{MessageRow}
use Rattle.opening.specs.OpenSends.{InitialTo}
use Rattle.opening.proofs.initialize.fill_initial.Given as goal

abbrev pub invariant-loop-d : goal.invariant-loop-d
invariant-loop-d l =
    (ds : List Direction) → MessageRow ds l.offsets l.initial.row → InitialTo ds l.initial.row l.d l.row
