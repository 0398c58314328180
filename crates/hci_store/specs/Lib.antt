pub mod Stored
pub mod Image
pub mod Refusals
pub mod Snapshots
pub mod Recordable
pub mod Committing
pub mod Starting
