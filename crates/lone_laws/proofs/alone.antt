pub mod Examples
pub mod Walks
pub mod Wrong
pub mod WrongMemories
