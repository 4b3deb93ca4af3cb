-- The report and how beliefs move it (Tally, Beliefs), one pattern (Pattern), all of them (Counting, All), and the call (Called).
pub mod Tally
pub mod Beliefs
pub mod Pattern
pub mod Counting
pub mod All
pub mod Called
