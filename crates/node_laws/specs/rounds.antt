pub mod BareRounds
pub mod LinkEvents
pub mod RoundEvents
