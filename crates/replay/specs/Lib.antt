-- When bytes are the same (Same, and of a shift Told), and what is counted over a list (Entries).
pub mod Same
pub mod Told
pub mod Entries
