pub mod DivisionLemmas
pub mod Numbers
pub mod Steps
pub mod FourSteps
pub mod Entries
