pub mod SessionsNoted
pub mod Turns
pub mod Worlds
pub mod Paying
pub mod Syncs
pub mod Begun
