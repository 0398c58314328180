pub mod Commits
pub mod Standing
pub mod Ticking
pub mod Events
pub mod Histories
pub mod Examples
