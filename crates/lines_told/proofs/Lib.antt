pub mod Words
pub mod fragments
pub mod messages
pub mod lines
