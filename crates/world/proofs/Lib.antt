mod Words
pub mod Noting
pub mod Nodes
pub mod Bare
pub mod Sending
pub mod Given
pub mod RoundLemmas
pub mod BareWorlds
pub mod Below
pub mod Playing
