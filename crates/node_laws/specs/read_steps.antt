pub mod Names
pub mod Works
pub mod Worlds
pub mod Alike
