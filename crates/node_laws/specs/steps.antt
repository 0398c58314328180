pub mod Creations
pub mod Waiting
