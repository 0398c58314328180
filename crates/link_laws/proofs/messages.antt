pub mod ActsInOrder
pub mod Project
pub mod Steps
pub mod Finishing
pub mod Runs
pub mod Examples
pub mod RsetNumbers
