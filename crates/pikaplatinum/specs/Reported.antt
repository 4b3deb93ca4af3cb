-- What an exported function replies of a call that answers with a report.
use Rattle.std.specs.Prelude.{◌≡◌}
use Rattle.definition.specs.Report.{ReportLent, ReportOutcome, ReportResult}

-- what is replied, and what every lent buffer holds afterwards, is the definition's result
pub record ReportAnswers {R : Type 0} (reply_to : ReportOutcome → R) (r : R) (l : ReportLent) (x : ReportResult) : Type 0 where
  pub reply : r ≡ reply_to x.outcome
  pub lent : l ≡ x.lent
