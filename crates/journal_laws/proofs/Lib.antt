pub mod Places
pub mod Reading
pub mod InUse
pub mod Opening
mod Examples
pub mod Planned
pub mod ReadFirst
