-- When the program has read enough (Program), what the code holds of the lines (Lines, LinesHeld) and of the shift (Depots, Held).
pub mod Program
pub mod Lines
pub mod LinesHeld
pub mod Depots
pub mod Held
