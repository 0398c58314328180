pub mod Known
pub mod Passes
