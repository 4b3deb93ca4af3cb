-- Of what the claims speak, and the claims: the reader's first file.
pub mod Parts
pub mod Claims
-- The same of a call, by what it leaves in its buffers.
pub mod CallByParts
-- Every pattern once; how far a tree is from the exact sum.
pub mod Patterns
pub mod ExactSums
-- The first check that fails, of which a table of refusals speaks; document 01's table.
pub mod First
pub mod Refused
-- The program's, with numbers 9 and 11; the reader's base rate taken out.
pub mod FileRefused
pub mod BaseRate
-- A shift's input cut into bales.
pub mod ShiftCut
-- Two readers over one belt.
pub mod Matching
-- All read patterns of a small graph.
pub mod AllPatterns
-- Settings tried on made-up bales.
pub mod TriedSettings
-- Tonnage by grade.
pub mod Tonnage
