pub mod Values
pub mod Access
