mod Words
pub mod Turning
pub mod Moving
pub mod Changing
pub mod Setting
pub mod Apart
pub mod Quiet
pub mod Fetching
mod Opening
mod Reading
mod AtRest
mod Placing
pub mod Coming
mod Keeping
mod Beside
pub mod Seated
pub mod Counting
pub mod Noticing
pub mod Making
pub mod Sending
pub mod Over
mod Blocks
pub mod Dues
pub mod Sendable
pub mod Gathering
mod ByHost
mod PassingOn
mod Handing
mod Relaying
