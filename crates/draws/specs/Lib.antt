-- What the draws' arguments and answers are in the definition's terms (Model), the present grades of each marker (Present), one turn of each loop (Turns),
-- and that they make up a bale (Made).
pub mod Model
pub mod Present
pub mod Turns
pub mod Made
