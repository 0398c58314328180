pub mod Dues
pub mod Roles
pub mod Reports
pub mod Ends
pub mod Steps
pub mod Received
pub mod Inputs
pub mod Idle
