-- The outcome of a call over all read patterns as numbers.
use Rattle.std.specs.Prelude.{ℕ, Result}
use Rattle.definition.specs.Report as definition
use Rattle.definition.specs.Report.{reported, report_refused}
use Rattle.reads.specs.Reported.{report_outcome_of}
use Rattle.checks.specs.declared.refusal.Refusal.{Refusal}
use Rattle.pikaplatinum.specs.declared.all_patterns.Patterns.{Patterns}

-- an answer has refusal 0, and a refusal no grades
abbrev pub patterns_reply : definition.ReportOutcome → Patterns
patterns_reply (reported g) = record { refusal = 0; place = 0; grades = g }
patterns_reply (report_refused n p) = record { refusal = n; place = p; grades = 0 }

abbrev pub patterns_to : Result ℕ Refusal → Patterns
patterns_to o = patterns_reply (report_outcome_of o)
