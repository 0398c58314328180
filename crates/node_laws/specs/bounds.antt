pub mod Resets
pub mod Commands
