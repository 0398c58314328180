pub mod View
pub mod Decide
