pub mod Sessions
pub mod Losses
pub mod Settled
