mod Words
pub mod LinkLemmas
pub mod LayoutLemmas
pub mod CopyLemmas
pub mod FillLemmas
pub mod FreshLemmas
pub mod ReachLemmas
pub mod WalkLemmas
pub mod PlaceLemmas
pub mod SlotLemmas
pub mod CountLemmas
pub mod HoldingLemmas
