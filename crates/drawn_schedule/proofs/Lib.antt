pub mod ReadLemmas
pub mod StepLemmas
pub mod HarmlessLemmas
