pub mod Steps
pub mod Freed
pub mod Comes
pub mod Events
