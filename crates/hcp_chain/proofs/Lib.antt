mod Words
pub mod GivenLemmas
pub mod CutLemmas
pub mod HoldingLemmas
pub mod ClearLemmas
pub mod GrowLemmas
pub mod ReadyLemmas
