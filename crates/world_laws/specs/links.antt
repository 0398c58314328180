pub mod Settling
pub mod RoundCauses
pub mod Resting
