mod Words
pub mod Fetching
