-- The outcome as the code has it, and the definition's.
use Rattle.std.specs.Prelude.{Result, Ok, Err}
use Rattle.definition.specs.Call as definition
use Rattle.definition.specs.Call.{Lent, answered, refused_at}
use Rattle.checks.specs.declared.refusal.FileRefusal.{FileRefusal}
use Rattle.checks.specs.Verdicts.{number_of}
use Rattle.zero_lookahead_belief_propagation.specs.declared.call.Counts.{Counts}

abbrev pub file_outcome_of : Result Counts FileRefusal → definition.Outcome
file_outcome_of (Ok c) = answered c.beliefs c.endings
file_outcome_of (Err r) = refused_at (number_of r.check) r.place

abbrev pub file_result_with : Result Counts FileRefusal → Lent → definition.Result
file_result_with r l = record { outcome = file_outcome_of r; lent = l }
