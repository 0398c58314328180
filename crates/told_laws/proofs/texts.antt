pub mod EntryLemmas
pub mod ShownLemmas
