pub mod Turns
pub mod Becomes
pub mod NearSteps
pub mod Wide
pub mod Law
pub mod Examples
