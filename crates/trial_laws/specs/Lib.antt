-- Settings tried on made-up bales, the claims proved: draws one after the other (Draws), no draw skipped (Skipped), the history (History), the report (Report),
-- that every made-up bale is accepted (Range, Accepted), who is counted (Counted, Beliefs), the table (Table), the call (Call).
pub mod Draws
pub mod Skipped
pub mod History
pub mod Report
pub mod Range
pub mod Accepted
pub mod Counted
pub mod Beliefs
pub mod Table
pub mod Call
