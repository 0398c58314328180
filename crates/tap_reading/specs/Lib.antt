pub mod Tap
pub mod Lpdus
pub mod keeping
