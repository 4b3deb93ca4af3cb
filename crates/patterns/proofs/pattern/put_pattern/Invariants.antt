-- `pattern::put_pattern` meets its contract.
use Rattle.std.proofs.Common.{◌≡◌}
use Rattle.definition.specs.Call.{overwrite}
use Rattle.pattern_laws.specs.Numbers.{pattern_at}
use Rattle.reads.specs.Put.{read_floats}
use Rattle.patterns.proofs.pattern.put_pattern.Given as goal

abbrev pub invariant-loop-m : goal.invariant-loop-m
invariant-loop-m l = l.evidence ≡ overwrite (read_floats (pattern_at l.m l.p)) l.initial.evidence
