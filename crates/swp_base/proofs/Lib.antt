pub mod BitLemmas
pub mod FrontLemmas
pub mod Results
pub mod TailLemmas
pub mod WriteLemmas
