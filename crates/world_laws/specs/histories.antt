pub mod Tapping
pub mod OnLinks
