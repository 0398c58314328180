pub mod Evidence
pub mod Timely
pub mod Lasts
pub mod Lives
