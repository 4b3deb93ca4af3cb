-- Of two readers' matches: one upper read more, and what the answer is.
pub mod Turns
pub mod Indexed
pub mod Answer
pub mod Table
pub mod Exchange
pub mod Longest
pub mod Call
