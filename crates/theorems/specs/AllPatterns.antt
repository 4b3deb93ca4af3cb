-- All read patterns of a small graph: the claims of `claims`, proved.
use Rattle.claims.specs.AllPatterns.{PatternsCounted, UnpairedMissing, EveryPatternAccepted, EvidenceUnread, PatternTable, PatternCallAnswered}
use Rattle.pattern_laws.specs.Report as Report
use Rattle.pattern_laws.specs.Table as Table
use Rattle.pattern_laws.specs.Call as Call
use Rattle.pattern_laws.specs.Missing as Missing

-- (1) the report counts patterns; which grades are without belief
pub patterns-counted : PatternsCounted
patterns-counted = Report.patterns-counted

pub unpaired_missing : UnpairedMissing
unpaired_missing = Missing.unpaired_missing

-- (2) every pattern is accepted
pub every-pattern_accepted : EveryPatternAccepted
every-pattern_accepted = Call.every-pattern_accepted

-- (3) the evidence is not read
pub evidence_unread : EvidenceUnread
evidence_unread = Call.evidence_unread

-- (4) the table, and (5) the call
pub pattern_table : PatternTable
pattern_table = Table.pattern_table

pub pattern-call_answered : PatternCallAnswered
pattern-call_answered = Call.call_answered
