mod Words
pub mod Ports
pub mod Decisions
pub mod Headers
pub mod Views
pub mod Telling
pub mod Control
pub mod HostWalks
pub mod RoomLemmas
pub mod SameBytes
