pub mod FreePipes
pub mod Decisions
mod Examples
