-- The table as the caller's floats hold it.
pub mod Rows
