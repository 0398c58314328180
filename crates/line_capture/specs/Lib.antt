pub mod Reading
pub mod Waves
