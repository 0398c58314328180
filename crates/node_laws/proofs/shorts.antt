pub mod Left
pub mod Histories
