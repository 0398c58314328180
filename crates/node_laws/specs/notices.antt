pub mod Notices
pub mod Worlds
pub mod Spares
