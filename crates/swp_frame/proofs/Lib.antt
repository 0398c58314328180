mod Words
pub mod Places
pub mod ContentLemmas
pub mod WritingLemmas
pub mod FurtherBits
