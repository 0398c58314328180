pub mod Runs
pub mod Bare
pub mod Nodes
pub mod Holding
pub mod Keeping
pub mod Unheld
pub mod Playable
pub mod Examples
