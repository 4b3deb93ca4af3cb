pub mod Leaves
pub mod Keys
pub mod Tournament
pub mod Climb
pub mod Descent
pub mod Answer
pub mod Waiting
