mod Words
pub mod TableLemmas
pub mod FreeLemmas
