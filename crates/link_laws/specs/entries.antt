pub mod Entries
pub mod Filters
pub mod Reading
pub mod Sessions
pub mod Order
pub mod Quiet
pub mod Settled
