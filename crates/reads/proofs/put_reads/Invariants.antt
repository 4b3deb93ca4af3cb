-- `reads::put_reads` meets its contract.
use Rattle.std.proofs.Common.{◌≡◌, take}
use Rattle.definition.specs.Call.{overwrite}
use Rattle.reads.specs.Put.{read_floats}
use Rattle.reads.proofs.put_reads.Given as goal

abbrev pub invariant-loop-m : goal.invariant-loop-m
invariant-loop-m l = l.evidence ≡ overwrite (read_floats (take l.m l.reads)) l.initial.evidence
