-- The graph in words; and what the building of it rests on, from lists to the whole record.
pub mod Words
pub mod BuildGroup
pub mod BuildSums
pub mod BuildEdges
pub mod BuildSlots
pub mod BuildNodes
pub mod BuildSort
pub mod BuildNumbers
pub mod BuildGraph
pub mod BuildRecord
pub mod BuildPlan
pub mod Build
pub mod BuildReader
