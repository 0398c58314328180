pub mod InTurn
pub mod BareRounds
pub mod AckedRounds
