pub mod Accounts
pub mod Shapes
pub mod Steps
pub mod Ticks
pub mod Events
pub mod WorldTicks
pub mod Lasting
