mod Words
pub mod Cutting
pub mod Texts
pub mod Fitting
pub mod Reading
pub mod Ending
pub mod Happened
pub mod Playing
pub mod RoundLemmas
pub mod Knowing
mod NodeExamples
mod HappenedExample
pub mod Summing
pub mod Numerals
pub mod Promised
