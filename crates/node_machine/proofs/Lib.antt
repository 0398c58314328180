pub mod world
pub mod Walks
