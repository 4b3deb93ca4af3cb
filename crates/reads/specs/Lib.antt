-- How reads lie in the evidence (Put), what a run under them leaves (Ran) and that it is accepted (Room), the checks of a call that makes many (Checked),
-- and what it answers (Reported).
pub mod Put
pub mod Ran
pub mod Room
pub mod Checked
pub mod Reported
