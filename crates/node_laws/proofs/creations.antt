pub mod Outcomes
pub mod Doing
pub mod Turning
pub mod Coming
pub mod Events
pub mod HostSides
pub mod Knowing
