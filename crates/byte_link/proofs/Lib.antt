pub mod ReadAgain
pub mod UnderWay
