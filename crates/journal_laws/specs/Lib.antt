pub mod Writes
pub mod Banks
pub mod Records
pub mod Journal
pub mod Operations
pub mod Planned
