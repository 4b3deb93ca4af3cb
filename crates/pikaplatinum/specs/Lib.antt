-- What the exported functions answer, tied to the definition.
pub mod Reply
pub mod Matches
pub mod Reported
pub mod AllPatterns
pub mod TriedSettings
