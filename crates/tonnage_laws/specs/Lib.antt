-- A bale's answer is what the program lists (answers-listed), and its grams (grams-of-bales).
pub mod Answers
-- The shift's bales by their numbers, as its bytes come.
pub mod Shifts
-- What comes of the lines fits (totals-fit), and what the call makes of it (calls-settle).
pub mod Fit
pub mod Settled
-- Every claim of tonnage with its proof.
pub mod Claimed
