pub mod Parts
pub mod Carrying
pub mod Controller
pub mod HostReplies
pub mod Turns
pub mod Node
pub mod world
pub mod Orders
