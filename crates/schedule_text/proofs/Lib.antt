mod Names
pub mod AgainLemmas
mod AtOnceLemmas
pub mod FaultsLemmas
pub mod Finding
pub mod FormsLemmas
pub mod GrowthLemmas
pub mod HexLemmas
pub mod HostsLemmas
pub mod LinesLemmas
pub mod NumbersLemmas
pub mod PairLemmas
pub mod PairsLemmas
pub mod PlacesLemmas
pub mod ReadAgainLemmas
pub mod RowsLemmas
pub mod WordsLemmas
