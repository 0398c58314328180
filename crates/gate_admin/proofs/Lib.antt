pub mod ViewLemmas
pub mod CreationLemmas
