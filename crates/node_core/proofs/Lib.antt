mod Words
pub mod Joining
pub mod Doing
pub mod Steps
pub mod Planned
pub mod Holding
pub mod Deciding
pub mod Quiet
pub mod HavingTurns
pub mod Allowing
pub mod Passing
mod Sendables
mod Relays
mod Elsewhere
pub mod EndKinds
pub mod Notes
mod Arriving
mod Ticking
mod Lateness
mod Forgetting
mod Freeing
mod Settling
mod Undisturbed
mod Idle
pub mod Stepping
pub mod Lasting
pub mod Resting
mod Refusing
mod Came
pub mod Between
pub mod Behind
mod Tasks
mod HostAllowing
pub mod Ordering
mod Deciders
pub mod Staying
pub mod Sendings
pub mod Asking
pub mod Unwritten
mod Becoming
pub mod Beginning
pub mod Faults
mod Masks
pub mod SeenAsNode
