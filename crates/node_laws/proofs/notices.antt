pub mod Telling
pub mod Turning
pub mod Steps
pub mod Near
pub mod Events
