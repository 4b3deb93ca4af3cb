-- One file for each module of src/, with the laws that its proofs cite.
pub mod Counts
pub mod LogTable
pub mod LnLaws
pub mod ExpLaws
pub mod PowerLaws
pub mod VectorLaws
pub mod Columns
pub mod SumLaws
