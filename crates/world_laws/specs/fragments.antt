pub mod Emitted
pub mod Knowing
