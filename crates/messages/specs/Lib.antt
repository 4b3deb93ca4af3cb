-- How message graphs and message sets stand in lent words and floats.
pub mod Layout
pub mod Pairs
pub mod LayoutLists
pub mod LayoutOffsets
pub mod LayoutCut
pub mod LayoutPairs
pub mod LayoutPuts
pub mod LayoutWrite
pub mod LayoutOrder
pub mod LayoutCopy
pub mod LayoutRows
pub mod LayoutWords
pub mod LayoutPending
pub mod LayoutKinds
pub mod LayoutSweeps
pub mod LayoutApart
pub mod State
-- Laws of the single messages, one file for each subject.
pub mod Logarithms
pub mod Variable
pub mod Factor
pub mod Residual
pub mod Rebuild
-- The rows of a component's message graph, from its record.
pub mod DirectionsRecord
pub mod DirectionsRows
pub mod Directions
pub mod DirectionsSteps
pub mod DirectionsRead
