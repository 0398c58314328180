pub mod Reckoned
pub mod Doing
pub mod Stepping
pub mod Booting
pub mod Events
pub mod Ticking
