pub mod Packets
pub mod MessageHeader
