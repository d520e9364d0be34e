mod Common
mod Gathered
pub mod Isolated
mod Ran
mod Unopened
mod Replayed
mod Sent
mod Whole
pub mod History
pub mod Order
pub mod Places
pub mod Told
pub mod Bounds
pub mod FaultLines
mod Noted
pub mod Meeting
pub mod Working
pub mod Dealt
