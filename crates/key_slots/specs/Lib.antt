pub mod Holdings
pub mod Standing
pub mod Wiping
