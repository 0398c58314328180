pub mod Slots
pub mod Links
pub mod Layout
pub mod Names
pub mod Owners
pub mod Pool
pub mod Counts
pub mod Holdings
