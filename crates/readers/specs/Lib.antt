-- The reads as they lie in the lent slices; a scan of the lower reads by their marks; the matches as they are written.
pub mod Slices
pub mod Outcomes
pub mod Verdicts
pub mod Scan
pub mod Marks
pub mod Turns
