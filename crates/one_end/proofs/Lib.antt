mod Words
pub mod Alone
pub mod Running
pub mod Bringing
pub mod Ran
