pub mod Histories
pub mod Filters
pub mod Damage
pub mod Steps
pub mod Follows
pub mod Legal
pub mod BareRsets
