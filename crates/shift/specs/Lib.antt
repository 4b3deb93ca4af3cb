-- What the program lists of the input that came (Program), what the code holds of it (Shifts), and the laws of that (Overs, Held).
pub mod Program
pub mod Shifts
pub mod Overs
pub mod Held
