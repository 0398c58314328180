pub mod Held
pub mod Roomy
pub mod Ordered
