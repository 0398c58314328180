pub mod InTurn
pub mod AckedRounds
