pub mod Wire
pub mod Order
