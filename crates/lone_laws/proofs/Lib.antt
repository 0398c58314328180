pub mod Words
pub mod alone
pub mod answered
