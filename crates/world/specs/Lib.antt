pub mod Noting
pub mod Nodes
pub mod Sides
pub mod Lines
pub mod BareWorlds
pub mod Worlds
