pub mod Stuffing
pub mod Signal
pub mod Content
pub mod Verdicts
pub mod Found
pub mod Kept
pub mod Writing
pub mod Words
