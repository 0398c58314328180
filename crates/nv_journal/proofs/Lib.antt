mod Words
pub mod Appending
pub mod Snapshotting
pub mod Compacting
pub mod PassedSteps
pub mod Formatting
pub mod Refusing
pub mod Standing
