pub mod Knowing
pub mod Passes
pub mod Beginning
pub mod Events
pub mod Histories
