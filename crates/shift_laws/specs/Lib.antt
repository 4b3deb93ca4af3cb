-- A shift's input cut into bales (Cut), which of them were ended (Ended), and its listing (Listed).
pub mod Cut
pub mod Ended
pub mod Listed
