pub mod LookUps
pub mod SortedTables
pub mod Ends
pub mod Opened
pub mod Values
pub mod TwoHosts
mod Examples
