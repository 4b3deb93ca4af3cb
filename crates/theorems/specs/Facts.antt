-- What else is proved of the definition, named where it is proved: that the parts are what they should be, that no look-up fails, that the call's contract can
-- be met, that refusals fall as the table has them.
-- Of an accepted bale: a part is connected, two nodes are in one part exactly if one reaches the other, and the parts have each node once.
pub use Rattle.graph_laws.specs.Connected.{Reaches, Connected, Together}
pub use Rattle.graph_laws.specs.PartsOfBale.{Partitioned, partitioned}
-- An edge of a part names itself at its two positions.
pub use Rattle.graph_laws.specs.Locality.{NamesItself, self_named}
-- Directions and 'sends by' are each other's inverse; every look-up by number finds its entry; what waits is a direction.
pub use Rattle.graph_laws.specs.Consistency.{Consistent, consistent}
pub use Rattle.graph_laws.specs.InRange.{waiting_there, top-there, changed-there}
-- The queue's top is the largest amount, and of equal ones the least direction; none exactly if nothing waits.
pub use Rattle.graph_laws.specs.Highest.{IsHighest, top_highest, highest_top, top-empty, empty-top}
-- The order of directions is that of (end node, position).
pub use Rattle.graph_laws.specs.DirectionOrder.{ComesBefore, direction_order}
-- A sweep reads nothing of msg_in_new.
pub use Rattle.graph_laws.specs.Unread.{sweep_unread, opening_unread}
-- A convolution is its accumulating loop; log_length n is the least p with n ≤ 2 ^ p.
pub use Rattle.graph_laws.specs.Convolution.{convolve_accumulates, log_length-least}
-- A grade has a belief exactly if it stands in a pair.
pub use Rattle.claims.specs.Parts.{in_pair}
pub use Rattle.graph_laws.specs.Paired.{believed_paired}
-- Beliefs and endings are at most the grades, numbers fit 32 bits, every lent buffer keeps its length, a refusal leaves all as it was.
pub use Rattle.graph_laws.specs.AnswerSizes.{TwoFloats, AnswerSizes, beliefs_each, answer-sizes}
pub use Rattle.graph_laws.specs.Lists.{All}
pub use Rattle.graph_laws.specs.Ranks.{NoDup}
pub use Rattle.graph_laws.specs.CallLengths.{SameLengths, NumbersFit, call-lengths, call_fits, call_refused, call_declined, call_accepted, call-counts}
-- The verdict refuses with the first cause of document 01's table, and accepts exactly if there is none.
pub use Rattle.claims.specs.First.{First}
pub use Rattle.claims.specs.Refused.{Fails}
pub use Rattle.graph_laws.specs.Refused.{verdict_refused, verdict_accepted}
-- Number 9 falls at the first bad place of a bale file and nowhere else; a file without one has document 01's order, with document 02's kind 7 or without
-- it. In the program it comes ahead of 11, a base rate of 0, and that ahead of 1 to 8.
pub use Rattle.claims.specs.FileRefused.{BadAt, FirstBad, FileJudged, GoodFile, NoneBad, FileFails, FileListed}
pub use Rattle.graph_laws.specs.FileRefused.{file-judged, file-listing}
pub use Rattle.graph_laws.specs.GoodFile.{none_bad}
-- The floats of a bale file are binary32 values. So are beliefs, residuals and amounts, all finite, and their printed bits determine them.
pub use Rattle.base_rate_laws.specs.Fits.{settings_fit, evidence-fits}
pub use Rattle.message_bounds.specs.Beliefs.{UnitValue, UnitValues, beliefs_in_unit}
pub use Rattle.message_bounds.specs.Amounts.{run_amounts, endings_bounded}
pub use Rattle.message_bounds.specs.Printed.{beliefs_printable, endings_printable, printed_same}
-- A shift's input is cut into bales in one way only, each up to its end word, and each is listed as if it were run singly.
pub use Rattle.claims.specs.ShiftCut.{NoEnd, EndedBale, OpenBale, EndedButLast, CutIntoBales, AtBaleEnd, CutsJoined, AllGood, ShiftListed}
pub use Rattle.shift_laws.specs.Listed.{cut_into_bales, cuts_joined, shift-listed}
-- Which bales of an input were ended, and the bytes of the one that was not; more input adds to these.
pub use Rattle.shift_laws.specs.Cut.{CutAs, last_bale, bales-ended}
pub use Rattle.shift_laws.specs.Ended.{ended_bales, open_bale, cut, bales_split, open_short, none-ended, all_open, ended-first, open_first, ended-more, open_more}
