pub mod Machines
pub mod Commands
pub mod Hosts
pub mod Works
pub mod Happenings
pub mod Rounds
pub mod Schedules
