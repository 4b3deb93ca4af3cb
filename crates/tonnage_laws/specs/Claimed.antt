-- Tonnage by grade (document 02, S-33): the claims of `claims`, proved.
use Rattle.definition.specs.Shift.{bales}
use Rattle.definition.specs.Tonnage.{answer_among, tonnage}
use Rattle.claims.specs.Tonnage.{LinesCut, RowsRead, SharesWhole, GramsOfBales, AnswersListed, Outcomes, TotalsFit, SameNamed, LongLines, CallsSettle}
use Rattle.weighing_laws.specs.Lines as Lines
use Rattle.weighing_laws.specs.Rows as Rows
use Rattle.weighing_laws.specs.Shares as Shares
use Rattle.weighing_laws.specs.Weighings as Weighings
use Rattle.weighing_laws.specs.Uncounted as Uncounted
use Rattle.tonnage_laws.specs.Answers as Answers
use Rattle.tonnage_laws.specs.Fit as Fit
use Rattle.tonnage_laws.specs.Settled as Settled

-- what the lines are, and which are good
pub lines_cut : LinesCut
lines_cut = Lines.lines_cut

pub rows-read : RowsRead
rows-read = Rows.rows-read

-- a grade's grams in a bale, by the answer that the program lists
pub shares_whole : SharesWhole
shares_whole = Shares.shares_whole

pub grams_of_bales : GramsOfBales
grams_of_bales = Answers.grams_of_bales

pub answers-listed : AnswersListed
answers-listed = Answers.answers-listed

-- where the lines end, with what, and that it fits
pub outcomes : Outcomes
outcomes = Weighings.outcomes

pub totals_fit : TotalsFit
totals_fit = Fit.totals_fit

-- what does not count
pub same_named : SameNamed
unfolding tonnage
same_named csv s t = Uncounted.same_named (answer_among (bales s)) (answer_among (bales t)) csv

pub long_lines : LongLines
unfolding tonnage
long_lines csv more shift = Uncounted.long_lines (answer_among (bales shift)) csv more

-- the call
pub calls_settle : CallsSettle
calls_settle = Settled.calls_settle
