pub mod Histories
pub mod Kept
pub mod Machine
pub mod Offering
