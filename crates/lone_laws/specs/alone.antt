pub mod Lone
pub mod Known
pub mod Answers
pub mod Ends
pub mod Memories
pub mod Runs
