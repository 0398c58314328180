pub mod Desks
pub mod Holding
pub mod Ends
pub mod Inputs
pub mod Making
