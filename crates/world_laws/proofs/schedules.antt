pub mod Resting
pub mod NotedQuiet
pub mod Examples
