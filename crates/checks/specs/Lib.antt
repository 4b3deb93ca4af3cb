-- What the checks answer in the definition's terms, the laws that their proofs cite, and what is known of an accepted call (Accepted).
pub mod Verdicts
pub mod Searching
pub mod Slices
pub mod Settings
pub mod Tests
pub mod Marks
pub mod Counts
pub mod Passed
pub mod Accepted
