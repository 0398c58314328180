pub mod Joining
pub mod Holding
pub mod TakingOut
