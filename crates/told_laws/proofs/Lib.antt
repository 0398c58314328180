pub mod Words
pub mod texts
pub mod told
pub mod nodes
