pub mod fragments
pub mod entries
pub mod histories
pub mod links
pub mod worlds
