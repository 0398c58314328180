mod Words
pub mod Among
pub mod OutgoingLemmas
pub mod IncomingLemmas
pub mod Fragments
