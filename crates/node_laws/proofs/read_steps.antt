pub mod Reading
pub mod Knowing
