-- What the program takes of its input and says of it (Program), and what the code holds of that (Taking).
pub mod Program
pub mod Taking
