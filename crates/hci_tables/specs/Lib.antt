pub mod Commands
pub mod Bodies
pub mod Tables
