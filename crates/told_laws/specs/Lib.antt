pub mod texts
pub mod told
