pub mod Room
pub mod Fronts
