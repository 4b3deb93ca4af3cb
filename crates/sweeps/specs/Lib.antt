-- Laws of a sweep over the rows of a part.
pub mod Sweep
pub mod SweepBuild
pub mod SweepCopies
pub mod SweepFactor
pub mod SweepNode
pub mod SweepRebuild
pub mod SweepRotate
pub mod SweepRows
pub mod SweepTree
pub mod SweepTreeBuild
pub mod SweepTreeSent
