pub mod Links
pub mod Order
pub mod Projection
pub mod Quiet
pub mod Settled
pub mod Rest
pub mod Rsets
