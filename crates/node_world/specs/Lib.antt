pub mod Bounds
pub mod HostSteps
pub mod Whole
pub mod Controllers
pub mod Rounds
pub mod Worlds
pub mod Legal
