pub mod Orders
pub mod Worlds
pub mod Noticed
