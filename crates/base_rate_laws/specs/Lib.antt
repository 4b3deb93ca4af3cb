-- A bale file's floats (Fits), and its base rate: the words of a good file by their kinds and where number 11 falls (Kinds), and evidence with the base rate taken out (Evidence).
pub mod Fits
pub mod Kinds
pub mod Evidence
