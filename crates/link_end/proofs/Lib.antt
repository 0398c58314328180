mod Words
pub mod EndLemmas
pub mod BoxLemmas
pub mod ReceiveLemmas
pub mod HearLemmas
pub mod StepLemmas
pub mod NodeLemmas
pub mod MakeLemmas
pub mod FormLemmas
pub mod AccountLemmas
pub mod RestLemmas
pub mod IdleLemmas
