-- What a listing leaves (Lent), of which bale (Next), and what the call has to do with it (Answered).
pub mod Lent
pub mod Next
pub mod Answered
