pub mod Reading
pub mod Writing
pub mod Running
pub mod Alone
pub mod Standing
pub mod WholeRuns
