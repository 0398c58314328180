pub mod Readings
pub mod Texts
pub mod Decoded
pub mod Kept
pub mod Starts
pub mod Frames
