pub mod Endings
pub mod WorldRounds
pub mod FewCauses
pub mod Examples
