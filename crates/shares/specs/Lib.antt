-- Beliefs added one by one (Adding), and those of a bale file's answer (Bales).
pub mod Adding
pub mod Bales
