pub mod Joins
pub mod Stands
pub mod Acknowledging
