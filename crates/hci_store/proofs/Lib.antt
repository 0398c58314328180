mod Words
pub mod Committed
pub mod Refusing
pub mod Starting
