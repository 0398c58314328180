pub mod Schedules
pub mod Transcripts
pub mod Replays
pub mod Pieces
pub mod Runs
pub mod Generated
pub mod Words
