-- What a call yields, part by part, and laws of it.
pub mod Answered
pub mod AnsweredPart
pub mod AnsweredOne
pub mod AnsweredAll
pub mod AnsweredStep
pub mod Calibrated
pub mod Called
