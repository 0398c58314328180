pub mod Marks
pub mod Spelling
pub mod Whole
pub mod Remainder
