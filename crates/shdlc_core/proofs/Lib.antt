mod Words
mod Examples
pub mod Steps
pub mod Histories
pub mod FramesDue
pub mod Timers
pub mod OfferedFrames
pub mod Offering
pub mod Idle
