pub mod Activation
pub mod Tries
