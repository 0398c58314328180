pub mod Sending
pub mod Noting
pub mod Events
