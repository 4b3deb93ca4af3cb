-- The outcome of a call that tries settings as numbers.
use Rattle.std.specs.Prelude.{ℕ, Result}
use Rattle.definition.specs.Report as definition
use Rattle.definition.specs.Report.{reported, report_refused}
use Rattle.reads.specs.Reported.{report_outcome_of}
use Rattle.checks.specs.declared.refusal.Refusal.{Refusal}
use Rattle.pikaplatinum.specs.declared.tried_settings.Trials.{Trials}

-- an answer has refusal 0, and a refusal no settings
abbrev pub trials_reply : definition.ReportOutcome → Trials
trials_reply (reported n) = record { refusal = 0; place = 0; settings = n }
trials_reply (report_refused n p) = record { refusal = n; place = p; settings = 0 }

abbrev pub trials_to : Result ℕ Refusal → Trials
trials_to o = trials_reply (report_outcome_of o)
