pub mod Links
pub mod Notes
pub mod BarePlays
pub mod Whole
