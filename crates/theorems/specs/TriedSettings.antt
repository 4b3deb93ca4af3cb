-- Settings tried on made-up bales: the claims of `claims`, proved.
use Rattle.claims.specs.TriedSettings.{HistoriesCounted, PairedCounted, HistorySplits, NoDrawSkipped, MadeUpAccepted, TrialEvidenceUnread, ReportedAlone, TrialTable, TrialCallAnswered}
use Rattle.trial_laws.specs.Report as Report
use Rattle.trial_laws.specs.Counted as Counted
use Rattle.trial_laws.specs.History as History
use Rattle.trial_laws.specs.Skipped as Skipped
use Rattle.trial_laws.specs.Accepted as Accepted
use Rattle.trial_laws.specs.Table as Table
use Rattle.trial_laws.specs.Call as Call

-- (1) the report counts over the histories; who is counted
pub histories_counted : HistoriesCounted
histories_counted = Report.histories_counted

pub paired_counted : PairedCounted
paired_counted = Counted.paired_counted

-- (2) the history goes step by step
pub history_splits : HistorySplits
history_splits = History.history_splits

-- (3) no draw is skipped
pub no_draw_skipped : NoDrawSkipped
no_draw_skipped = Skipped.no_draw_skipped

-- (4) every made-up bale is accepted
pub made-up_accepted : MadeUpAccepted
made-up_accepted = Accepted.made-up_accepted

-- (5) the evidence is not read
pub trial_evidence_unread : TrialEvidenceUnread
trial_evidence_unread = Call.trial_evidence_unread

-- (6) a setting is reported as if it were tried alone
pub reported_alone : ReportedAlone
reported_alone = Report.reported_alone

-- (7) the table of refusals; (8) the call
pub trial_table : TrialTable
trial_table = Table.trial_table

pub trial_call_answered : TrialCallAnswered
trial_call_answered = Call.trial_call_answered
