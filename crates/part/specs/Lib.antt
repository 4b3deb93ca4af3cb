-- How a part ends, what its beliefs are, and that a part of an accepted call has all that its run asks.
pub mod Accepted
pub mod AcceptedFactor
pub mod AcceptedSizes
pub mod AcceptedWords
pub mod Beliefs
pub mod BeliefsGrade
pub mod BeliefsLoop
pub mod BeliefsWrite
pub mod Ending
pub mod Named
pub mod RunQueue
pub mod RunSteps
pub mod RunSweeps
