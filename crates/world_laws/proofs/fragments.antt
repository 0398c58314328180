pub mod Wires
pub mod Going
pub mod Taking
pub mod Runs
