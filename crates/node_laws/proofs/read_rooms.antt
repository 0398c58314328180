pub mod Carrying
pub mod Beginning
pub mod Ticking
pub mod HostTicking
