-- The definition of the program, in the order in which it is to be read.
-- Numbers: binary32 with the stand-ins, lists, vectors.
pub mod Floats
pub mod Lists
pub mod Vectors
-- The model: settings, the noisy-OR table, the convolution tree, the factor graph and its components.
pub mod Settings
pub mod NoisyOr
pub mod ConvolutionTree
pub mod FactorGraph
pub mod Components
-- The schedule: directions and their messages, opening and sweeps, the queue, the run as a list of events.
pub mod Directions
pub mod Messages
pub mod Sweeps
pub mod Priorities
pub mod Run
-- The call: what is answered, what is refused, what every buffer holds afterwards; a part entered by itself.
pub mod Answer
pub mod Refusals
pub mod Call
pub mod PartAlone
-- The programs: the bale file, what it is answered, its listing; bale files that follow one another.
pub mod BaleFile
pub mod FileAnswer
pub mod Text
pub mod Listing
pub mod Shift
-- The depot: tonnage by grade.
pub mod Tonnage
-- Two readers over one belt.
pub mod Readers
-- Markers read strongly or weakly, calls that report on many such runs: all patterns of reads, and settings tried on made-up bales.
pub mod Reads
pub mod Report
pub mod Patterns
pub mod Trials
-- Computed: the constants, document 01's 'Bales to prove' with patterns of reads and made-up bales, belts under two readers, and weighed bales.
pub mod Constants
pub mod Bales
pub mod Belts
pub mod Weighings
