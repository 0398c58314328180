pub mod LinkSettled
pub mod RoundCauses
pub mod NotedFragments
pub mod Brought
pub mod BroughtBehind
pub mod NotedRest
pub mod Undisturbed
