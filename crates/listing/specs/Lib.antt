-- What it is to write bytes, and the fields of a line.
pub mod Writing
-- Decimal and hexadecimal digits.
pub mod Digits
-- The lines, and those of the beliefs and of the parts, one after the other.
pub mod Lines
pub mod Beliefs
pub mod Front
pub mod Parts
pub mod PartsLeft
-- How long the listing is, and what stands in the buffers after a call.
pub mod Sizes
pub mod Answered
-- The depot's lines, one total after the other.
pub mod Totals
