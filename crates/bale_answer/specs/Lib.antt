-- What was taken in of the input (Taken, Open), what it is answered by cases (Cases), and what the decoder and the call have to do with it (Checks, Good,
-- Coded, Outcomes, AcceptedFile, Answering).
pub mod Cases
pub mod Taken
pub mod Open
pub mod Checks
pub mod Good
pub mod Coded
pub mod AcceptedFile
pub mod Outcomes
pub mod Answering
