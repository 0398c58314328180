mod Names
pub mod Numerals
pub mod FurtherFrames
pub mod Sixteen
pub mod Marks
