pub mod Errors
pub mod Views
pub mod Inits
