mod Words
pub mod Alone
pub mod Answered
pub mod Giving
pub mod Hearing
pub mod Outcomes
pub mod Recording
pub mod Taken
pub mod Tapped
