pub mod Below
pub mod Plays
pub mod RoundLines
