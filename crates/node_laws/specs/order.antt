pub mod Told
pub mod Resets
pub mod Legal
