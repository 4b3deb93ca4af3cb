-- The claims of tonnage for whatever answers the bales, proved: lines (lines-cut) and their numbers, and a line as its row written out (rows-read).
pub mod Lines
pub mod Numbers
pub mod Rows
-- A share is the whole part (shares-whole), and a grade's grams are a share of the weight.
pub mod Shares
pub mod Grams
-- Totals, line by line: what comes of the lines (outcomes).
pub mod Totals
pub mod Weighings
-- What does not count: bales that no line names (same-named), and bytes behind the first 100,011 (long-lines).
pub mod Uncounted
