pub mod Coming
pub mod Hearing
