pub mod Words
pub mod Examples
pub mod WrongLinks
pub mod Leading
pub mod Filters
pub mod waits
pub mod legal
pub mod RsetsInBareWorlds
