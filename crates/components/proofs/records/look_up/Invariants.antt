-- `records::look_up` meets its contract: after i turns the first i numbers are looked up.
use Rattle.std.proofs.Common.{◌≡◌}
use Rattle.components.specs.ComponentRecord.{looked_up}
use Rattle.components.proofs.records.look_up.Given as goal

abbrev pub invariant-loop-i : goal.invariant-loop-i
invariant-loop-i l = l.words ≡ looked_up l.initial.words l.table l.from l.to l.i
