pub mod Passing
pub mod Replying
pub mod InSteps
pub mod Waiting
