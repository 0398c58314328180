pub mod Flows
pub mod Joined
