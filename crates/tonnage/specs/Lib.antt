-- A bale's answer, weighed and added.
pub mod Answering
-- Line by line, and bale by bale: what the code holds (Steps, Standings, Weighed), and the laws of that (Tallies, Turns, Pieces).
pub mod Steps
pub mod Standings
pub mod Tallies
pub mod Turns
pub mod Weighed
pub mod Pieces
pub mod Reply
