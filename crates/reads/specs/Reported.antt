-- What a call that answers with a report is lent and answers, in the definition's terms.
use Rattle.std.specs.Prelude.{ℕ, List, Float, Result, Ok, Err}
use Rattle.definition.specs.Report as definition
use Rattle.definition.specs.Report.{ReportLent, reported, report_refused, ReportResult}
use Rattle.checks.specs.declared.refusal.Refusal.{Refusal}
use Rattle.checks.specs.Verdicts.{number_of}

-- how many grades or settings are reported, or the refusal
abbrev pub report_outcome_of : Result ℕ Refusal → definition.ReportOutcome
report_outcome_of (Ok n) = reported n
report_outcome_of (Err r) = report_refused (number_of r.check) r.place

abbrev pub report_lent_with : List Float → List ℕ → List ℕ → ReportLent
report_lent_with wf wn r = record { work_floats = wf; work_numbers = wn; report = r }

abbrev pub report_result_with : Result ℕ Refusal → ReportLent → ReportResult
report_result_with o l = record { outcome = report_outcome_of o; lent = l }
