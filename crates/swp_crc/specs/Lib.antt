pub mod Division
pub mod Crc
pub mod Running
