pub mod Notes
pub mod Wires
pub mod Damages
pub mod Putting
