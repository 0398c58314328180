pub mod RoundCauses
pub mod Examples
