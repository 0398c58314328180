pub mod Finds
pub mod Gates
pub mod Reckonings
pub mod Books
pub mod Deeds
pub mod Hosts
pub mod Worlds
