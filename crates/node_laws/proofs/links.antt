pub mod Sites
pub mod Works
pub mod Worlds
pub mod Noticing
pub mod Blocks
