pub mod Ranges
pub mod Examples
pub mod Few
