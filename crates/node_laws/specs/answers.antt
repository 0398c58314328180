pub mod Moments
pub mod Order
pub mod Unasked
pub mod Answered
pub mod Headline
pub mod Rows
pub mod Rules
