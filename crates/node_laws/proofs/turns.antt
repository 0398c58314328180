pub mod Passing
pub mod Nodes
pub mod Worlds
