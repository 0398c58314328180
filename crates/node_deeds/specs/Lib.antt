pub mod Shown
pub mod Pipes
pub mod Desks
pub mod Cores
pub mod Replies
pub mod Hosts
pub mod Room
