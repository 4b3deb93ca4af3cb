-- Sums of products, row by row.
pub mod Zeros
pub mod Rows
pub mod Correlation
-- The layers, node after node.
pub mod Nodes
pub mod Lent
pub mod CountLayer
pub mod LikelihoodLayer
-- The tree: its layers one after the other, the way up and the way down.
pub mod Layers
pub mod WayUp
pub mod WayDown
-- The leaves, and the whole.
pub mod Leaves
pub mod Exchange
pub mod Tree
pub mod Sent
