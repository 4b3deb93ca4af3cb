-- Calls of `read` and `write` by what they answered (Calls, Reads, Writes), and what came by them (Input). What C's calls answer as numbers (Answers).
pub mod Answers
pub mod Calls
pub mod Reads
pub mod Input
pub mod Writes
