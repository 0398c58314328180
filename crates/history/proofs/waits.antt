pub mod Harking
pub mod Histories
mod Examples
