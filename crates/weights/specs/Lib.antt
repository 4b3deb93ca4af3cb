-- What a digit, a number and a line read are.
pub mod Reading
