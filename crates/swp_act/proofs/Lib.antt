pub mod TryLemmas
