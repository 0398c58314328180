pub mod Faults
pub mod Kept
pub mod Snapshots
pub mod Scanning
pub mod Gates
pub mod Refusals
