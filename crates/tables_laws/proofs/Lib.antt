mod Words
pub mod gate
pub mod tables
