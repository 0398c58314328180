pub mod Statuses
pub mod Records
pub mod Decodings
pub mod Taps
pub mod Images
pub mod Ends
