pub mod Creations
pub mod Worlds
