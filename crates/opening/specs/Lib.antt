-- Laws of the opening over the rows of a part.
pub mod Begin
pub mod Open
pub mod OpenFactors
pub mod OpenGrades
pub mod OpenKinds
pub mod OpenRows
pub mod OpenSends
