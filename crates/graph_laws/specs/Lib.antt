-- Tests and lists.
pub mod Bools
pub mod Lists
pub mod Twos
pub mod Ranks
-- The walk: it ends, it commutes with renaming, its parts are closed and partition the nodes; each edge of a part names itself.
pub mod Walk
pub mod Reach
pub mod Components
pub mod Partition
pub mod Positions
pub mod Isomorphism
pub mod OneComponent
-- The built graph: its names, its edges, its sizes; a part entered by itself.
pub mod Names
pub mod Renumbering
pub mod Locality
pub mod AloneChecks
pub mod Distinct
pub mod Incident
pub mod Sizes
-- For proofs of code: nodes and edges by number, scans and positions, messages as a row of floats.
pub mod Numbers
pub mod WalkLoop
pub mod Flat
-- The run: its events, and what holds of every message in force.
pub mod Events
pub mod Invariant
pub mod Convolution
pub mod Lengths
pub mod MessageLengths
pub mod Sending
-- The theorems: locality, and the bounds from what each way to make a message keeps.
pub mod Accepted
pub mod LocalAnswer
pub mod ByNames
pub mod Structure
-- Directions and positions in the message graph of a part; what a run reads and keeps; what trees sent of what is in force.
pub mod Places
pub mod Consistency
pub mod DirectionNumbers
pub mod DirectionOrder
pub mod MessageCounts
pub mod Unread
pub mod SentByTrees
pub mod Highest
pub mod InRange
-- What the public call needs of an answer: connected parts, counts, lengths, refusals; which grades have a belief.
pub mod Connected
pub mod Subsets
pub mod AnswerSizes
pub mod PartsOfBale
pub mod Paired
pub mod Overwriting
pub mod CallLengths
pub mod ReadBack
pub mod FirstChecks
pub mod Refused
-- Number 9, and the program's table.
pub mod FileRefused
pub mod GoodFile
-- All patterns: of grades that are present, of markers that are strongly read.
pub mod Patterns
