pub mod Schedules
pub mod Readings
pub mod Cases
