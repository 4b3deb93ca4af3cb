-- Laws of a scheduled step over the rows of a part.
pub mod StepChanged
pub mod StepFloats
pub mod StepLog
pub mod StepPart
pub mod StepPending
pub mod StepSingle
pub mod StepUpdate
