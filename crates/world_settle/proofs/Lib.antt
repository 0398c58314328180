pub mod Rounds
pub mod Going
