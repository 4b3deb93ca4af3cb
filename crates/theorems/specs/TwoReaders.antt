-- Two readers over one belt: the claims of `claims`, proved.
use Rattle.claims.specs.Matching.{AnswerMatches, Longest, Rule, AnswerListed, Table, CallAnswers}
use Rattle.readers_laws.specs.Answer as Answer
use Rattle.readers_laws.specs.Longest as Longest
use Rattle.readers_laws.specs.Table as Table
use Rattle.readers_laws.specs.Call as Call

-- (1) the answer is a list of matches, and (2) none is longer
pub answer-matches : AnswerMatches
answer-matches = Answer.answer-matches

pub longest : Longest
longest = Longest.longest

-- (3) it is made by the rule, and (4) listed in order
pub rule : Rule
rule = Answer.rule

pub answer-listed : AnswerListed
answer-listed = Answer.answer-listed

-- (5) the table of refusals, and (6) the call
pub table : Table
table = Table.table

pub call-answers : CallAnswers
call-answers = Call.call-answers
