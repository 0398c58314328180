pub mod Creations
pub mod Passes
pub mod Waiting
pub mod Left
