pub mod World
pub mod Lines
pub mod NodeHistories
pub mod NodeFilters
pub mod NodeLegal
pub mod Rounds
