-- The models of the reading and of the decoder, the laws that their proofs cite, and what is decoded in the definition's terms (Decoded, DecodedBale, FirstBale).
pub mod Words
pub mod Base
pub mod Reading
pub mod ReadingSteps
pub mod Decoder
pub mod Feeding
pub mod FirstBale
pub mod Places
pub mod Onto
pub mod Kinds
pub mod Decoded
pub mod Spoilt
pub mod DecodedBale
pub mod Fractions
pub mod Laid
