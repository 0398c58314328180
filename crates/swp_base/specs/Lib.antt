pub mod Bits
pub mod DataUnits
pub mod Outside
pub mod InMemory
pub mod Told
pub mod Endings
