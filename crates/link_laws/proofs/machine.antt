pub mod Sound
pub mod Runs
pub mod Reports
