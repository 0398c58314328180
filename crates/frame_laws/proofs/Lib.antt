pub mod Runs
pub mod Unstuffing
pub mod Existence
pub mod Places
pub mod Whole
pub mod Content
pub mod Remainder
