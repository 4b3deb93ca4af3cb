-- What the timed functions compute and leave.
pub mod Leaves
pub mod Tree
pub mod Graphs
