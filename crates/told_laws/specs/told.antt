pub mod Told
pub mod NodesTold
