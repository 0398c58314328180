pub mod Turning
pub mod Sites
pub mod Noting
pub mod Lines
pub mod Noticed
